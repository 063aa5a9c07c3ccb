use Rattle.std.proofs.Common.{rules, subst}
use Rattle.g4_core.specs.States.{State}
use Rattle.g4_core.specs.Laws.{IsReached}
use Rattle.g4_core.proofs.Filling.{reached_on}
use Rattle.g4_core.proofs.machine.Core.apply.Goals as goal

pub invariant_of-self-2 : goal.invariant_of-self-2
invariant_of-self-2 g c =
    let a = g.A.Automaton in
    let reached = subst (λ (s : State g.row.N.Denot g.row.C.Denot). IsReached a.starts a.leads s.plan s.files s) c.self.view_is
    c.self.invariant in
    let m = c.match-effect.self-inside in
    reached_on a.starts a.leads c.args.self.now reached c.args.change c.requires
    (record {
      plan = m.plan;
      files = m.files;
      rows = m.rows.items;
      starts = m.starts.items;
      cells = m.cells.items;
      progress = m.progress.items;
      workers = c.put-2.new.list.items;
      answers = m.answers.items;
    })
    (search rules)
