use Rattle.std.proofs.Common.{◌≡◌, ◌+◌, ◌*◌, ◌<◌, List, [], refl, sym, ap, ◌∙◌, subst}
use Rattle.atomic_table.specs.Table.{step}
use mathlib.Core.Option.{none}
use lib.ListN.{get_elem?}
use Rattle.g4_store.specs.declared.automaton.Led.TheVariants.{End}
use Rattle.g4_store.specs.declared.automaton.Fact.TheVariants.{Cell}
use Rattle.g4_store.specs.declared.view.View.{View}
use Rattle.g4_store.specs.Numbers.{Among, has}
use Rattle.g4_store.specs.Views.{filled}
use Rattle.g4_store.proofs.Stores.{fills_cell}
use Rattle.g4_store.proofs.Benches.{filled_bench}
use Rattle.g4_store.proofs.bench.Bench.fill_end.Goals as goal

pub store-requires : goal.store-requires
store-requires g c =
    let p = c.self.invariant in
    let d = c.desk.ensures in
    let r = c.requires in
    let w = c.cell_word-word.ensures in
    let new = 2 * c.args.code + 1 in
    let tight = ap (λ (v : View _). v.loose) c.self.view_is ∙ r.guest.0 in
    let there = ap (λ (v : View _). get_elem? v.rows c.args.row) c.self.view_is ∙ r.row.1 in (
      p.0 ∙ sym d.0,
      subst (λ (t : _). c.cell_word-word.result < t.words) (sym d.0) w.1,
      rw d.1 (fills_cell g.A.Automaton.starts g.A.Automaton.leads g.B.Home.plan _ _ c.cell_word-word.result new r.guest.1.0 c.args.row
          c.args.column r.row.0 (End c.args.code) _ (step c.desk.result.now.table_id.slots c.cell_word-word.result new 0 none) refl refl
          (ap (λ (v : View _). v.spent) p.2) (ap (λ (v : View _). v.is_book) p.2)
          (ap (λ (v : View _). has r.guest.1.0 v.holds) c.self.view_is ∙ r.guest.1.1)
          w.0 r.place.1 there r.row.2 refl (λ led m.
          r.empty r.row.0 r.row.1 led (subst (λ (v : View _). Among (Cell r.row.0 c.args.column led) v.facts) c.self.view_is m))
          (λ z m. subst (λ (l : List _). Among z l) tight m)),
    )

pub invariant_of-self : goal.invariant_of-self
invariant_of-self g c =
    let p = c.self.invariant in
    let r = c.requires in
    let e = c.store.ensures in
    let there = ap (λ (v : View _). get_elem? v.rows c.args.row) c.self.view_is ∙ r.row.1 in
    let is = (e.2.1 c.args.row c.args.column r.row.0 (End c.args.code) [] there r.place.1 c.cell_word-word.ensures.0 refl (refl, refl)).1 in
    (e.0 ∙ p.0, e.2.0 ∙ p.1, filled_bench c.self.inside.rows.0 _ _ _ [] is p.2, p.3)

pub returns : goal.returns
returns g c = λ x row.
    let there = ap (λ (v : View _). get_elem? v.rows c.args.row) c.self.view_is ∙ row in
    subst (λ (q : View _). c.store.new.seat.me.0 ≡ filled (Cell x c.args.column (End c.args.code)) [] q) c.self.view_is
    ((c.store.ensures.2.1 c.args.row c.args.column x (End c.args.code) [] there c.requires.place.1 c.cell_word-word.ensures.0 refl
    (refl, refl)).1)
