use Rattle.std.proofs.Common.{◌<◌, refl, sym, ap, ◌∙◌, subst}
use Rattle.atomic_table.specs.Table.{step}
use mathlib.Core.Option.{none}
use Rattle.g4_store.specs.Numbers.{has}
use Rattle.g4_store.specs.Found.{StartFound}
use Rattle.g4_store.proofs.Loads.{probes_start}
use Rattle.g4_store.proofs.Passes.{start_pass, start_found, start_rows}
use Rattle.g4_store.proofs.pass.Pass.read_start.Goals as goal

pub load-found-requires : goal.load-found-requires
load-found-requires g c =
    let p = c.self.invariant in
    let d = c.desk.ensures in
    let w = c.start_word-word.ensures in (
      p.0 ∙ sym d.0,
      subst (λ (t : _). c.start_word-word.result < t.words) (sym d.0) w.1,
      rw d.1 (probes_start g.A.Automaton.starts g.A.Automaton.leads g.B.Home.plan _ _ _ c.args.start _
          (step c.desk.result.now.table_id.slots c.start_word-word.result 0 0 none) refl w.0 c.requires (ap (λ v. v.spent) p.2)),
    )

pub invariant_of-self : goal.invariant_of-self
invariant_of-self g c =
    let p = c.self.invariant in
    let e = c.load-found.ensures in
    let t = e.2.1 c.args.start c.requires c.start_word-word.ensures.0 in
    let k = start_pass g.A.Automaton.starts g.A.Automaton.leads g.B.Home.plan c.args.start c.load-found.result _ _ t p.2 in
    let rows = start_rows g.A.Automaton.starts g.A.Automaton.leads g.B.Home.plan c.args.start c.load-found.result _ _ c.self.inside.full
    t p.4 in
    (e.0 ∙ p.0, e.2.0 ∙ p.1, k.0, (p.3.0, ap (λ l. has p.3.0 l) k.1 ∙ p.3.1), rows)

pub returns-clause-rows : goal.returns-clause-rows
returns-clause-rows g c =
    let t = c.load-found.ensures.2.1 c.args.start c.requires c.start_word-word.ensures.0 in
    start_rows g.A.Automaton.starts g.A.Automaton.leads g.B.Home.plan c.args.start c.load-found.result _ _ c.self.inside.full t
    c.self.invariant.4

pub returns-clause-found : goal.returns-clause-found
returns-clause-found g c =
    let e = c.load-found.ensures in
    let t = e.2.1 c.args.start c.requires c.start_word-word.ensures.0 in
    subst (λ (q : _). StartFound g.A.Automaton.starts g.A.Automaton.leads g.B.Home.plan c.args.start q.0 c.load-found.new.seat.me.0
    c.decode_start.result) c.self.view_is
    (start_found g.A.Automaton.starts g.A.Automaton.leads g.B.Home.plan c.args.start c.load-found.result c.self.inside.seat.me.0
    c.load-found.new.seat.me.0 c.decode_start.result c.decode_start.ensures t)
