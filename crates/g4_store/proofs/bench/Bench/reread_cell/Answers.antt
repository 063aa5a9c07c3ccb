use Rattle.std.proofs.Common.{◌≡◌, ◌<◌, refl, sym, ap, ◌∙◌, subst}
use Rattle.atomic_table.specs.Table.{step}
use mathlib.Core.Option.{none, some}
use lib.ListN.{get_elem?}
use Rattle.g4_store.specs.declared.view.View.{View}
use Rattle.g4_store.specs.Found.{CellReread}
use Rattle.g4_store.proofs.Loads.{rereads_cell}
use Rattle.g4_store.proofs.Benches.{cell_bench, cell_reread}
use Rattle.g4_store.proofs.bench.Bench.reread_cell.Goals as goal

pub load-found-requires : goal.load-found-requires
load-found-requires g c =
    let p = c.self.invariant in
    let d = c.desk.ensures in
    let w = c.cell_word-word.ensures in
    let r = c.requires in (
      p.0 ∙ sym d.0,
      subst (λ (t : _). c.cell_word-word.result < t.words) (sym d.0) w.1,
      rw d.1 (rereads_cell g.A.Automaton.starts g.A.Automaton.leads g.B.Home.plan _ _ _ c.args.row c.args.column r.row.0 _
          (step c.desk.result.now.table_id.slots c.cell_word-word.result 0 0 none) refl w.0 r.place.1
          (subst (λ (q : View _). get_elem? q.rows c.args.row ≡ some r.row.0) (sym c.self.view_is) r.row.1) (ap (λ v. v.spent) p.2)
          (ap (λ v. v.is_book) p.2)),
    )

pub invariant_of-self : goal.invariant_of-self
invariant_of-self g c =
    let p = c.self.invariant in
    let e = c.load-found.ensures in
    let r = c.requires in
    let t = e.2.1 c.args.row c.args.column r.row.0
    (subst (λ (q : View _). get_elem? q.rows c.args.row ≡ some r.row.0) (sym c.self.view_is) r.row.1) r.place.1
    c.cell_word-word.ensures.0 in (
      e.0 ∙ p.0,
      e.2.0 ∙ p.1,
      cell_bench g.A.Automaton.starts g.A.Automaton.leads g.B.Home.plan r.row.0 c.args.column
          c.load-found.result _ _ _ t p.2,
      p.3,
    )

pub returns : goal.returns
returns g c = λ x row.
    let e = c.load-found.ensures in
    let t = e.2.1 c.args.row c.args.column x (subst (λ (q : View _). get_elem? q.rows c.args.row ≡ some x) (sym c.self.view_is) row)
    c.requires.place.1 c.cell_word-word.ensures.0 in
    subst (λ (q : View _). CellReread g.A.Automaton.starts g.A.Automaton.leads g.B.Home.plan x c.args.column q
    c.load-found.new.seat.me.0 c.is_filled.result) c.self.view_is
    (cell_reread g.A.Automaton.starts g.A.Automaton.leads g.B.Home.plan x c.args.column c.load-found.result _ _ c.is_filled.result
    c.is_filled.ensures t)
