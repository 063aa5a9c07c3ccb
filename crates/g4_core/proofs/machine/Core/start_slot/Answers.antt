use Rattle.std.proofs.Common.{sym, inl, subst}
use Rattle.g4_core.specs.States.{State}
use Rattle.g4_core.specs.Laws.{IsReached}
use Rattle.g4_core.proofs.Filling.{start_held, start_open}
use Rattle.g4_core.proofs.machine.Core.start_slot.Goals as goal

pub returns-in-Some : goal.returns-in-Some
returns-in-Some g c =
    let a = g.A.Automaton in
    let reached = subst (λ (s : State g.row.N.Denot g.row.C.Denot). IsReached a.starts a.leads s.plan s.files s) c.self.view_is
    c.self.invariant in
    inl (start_held a.starts a.leads a.one_start a.one_led c.args.self.now reached c.args.path.now c.requires c.in-Some.field-0
    (sym c.in-Some.ensures))

pub returns-in-None : goal.returns-in-None
returns-in-None g c =
    let a = g.A.Automaton in
    let reached = subst (λ (s : State g.row.N.Denot g.row.C.Denot). IsReached a.starts a.leads s.plan s.files s) c.self.view_is
    c.self.invariant in
    start_open a.starts a.leads a.one_start a.one_led c.args.self.now reached c.args.path.now.start c.in_ok-row.row
    c.args.path.now.content (sym c.in-None.ensures) c.in_ok-row.ensures
