use Rattle.std.proofs.Common.{◌<◌, refl, sym, ap, ◌∙◌, subst}
use Rattle.atomic_table.specs.Table.{step}
use mathlib.Core.Option.{none}
use Rattle.g4_store.specs.declared.view.View.{View}
use Rattle.g4_store.specs.Found.{StartReread}
use Rattle.g4_store.proofs.Loads.{rereads_start}
use Rattle.g4_store.proofs.Benches.{start_bench, start_reread}
use Rattle.g4_store.proofs.bench.Bench.reread_start.Goals as goal

pub load-found-requires : goal.load-found-requires
load-found-requires g c =
    let p = c.self.invariant in
    let d = c.desk.ensures in
    let w = c.start_word-word.ensures in (
      p.0 ∙ sym d.0,
      subst (λ (t : _). c.start_word-word.result < t.words) (sym d.0) w.1,
      rw d.1 (rereads_start g.A.Automaton.starts g.A.Automaton.leads g.B.Home.plan _ _ _ c.args.start _
          (step c.desk.result.now.table_id.slots c.start_word-word.result 0 0 none) refl w.0 c.requires (ap (λ v. v.spent) p.2)
          (ap (λ v. v.is_book) p.2)),
    )

pub invariant_of-self : goal.invariant_of-self
invariant_of-self g c =
    let p = c.self.invariant in
    let e = c.load-found.ensures in
    let t = e.2.1 c.args.start c.requires c.start_word-word.ensures.0 in (
      e.0 ∙ p.0,
      e.2.0 ∙ p.1,
      start_bench g.A.Automaton.starts g.A.Automaton.leads g.B.Home.plan c.args.start c.load-found.result _ _ _
          t p.2,
      p.3,
    )

pub returns : goal.returns
returns g c =
    let e = c.load-found.ensures in
    let t = e.2.1 c.args.start c.requires c.start_word-word.ensures.0 in
    subst (λ (q : View _). StartReread g.A.Automaton.starts g.A.Automaton.leads g.B.Home.plan c.args.start q
    c.load-found.new.seat.me.0 c.is_filled.result) c.self.view_is
    (start_reread g.A.Automaton.starts g.A.Automaton.leads g.B.Home.plan c.args.start c.load-found.result _ _ c.is_filled.result
    c.is_filled.ensures t)
