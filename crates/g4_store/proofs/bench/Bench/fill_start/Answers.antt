use Rattle.std.proofs.Common.{◌≡◌, ◌+◌, ◌<◌, [], ◌∷◌, refl, sym, ap, ◌∙◌, subst}
use Rattle.atomic_table.specs.Table.{step}
use mathlib.Core.Option.{none}
use lib.ListN.{get_elem?}
use Rattle.g4_store.specs.declared.automaton.Fact.TheVariants.{Start}
use Rattle.g4_store.specs.declared.view.View.{View}
use Rattle.g4_store.specs.Numbers.{Among, has}
use Rattle.g4_store.specs.Views.{filled}
use Rattle.g4_store.proofs.Stores.{fills_start}
use Rattle.g4_store.proofs.Benches.{filled_bench}
use Rattle.g4_store.proofs.bench.Bench.fill_start.Goals as goal

pub store-requires : goal.store-requires
store-requires g c =
    let p = c.self.invariant in
    let d = c.desk.ensures in
    let r = c.requires in
    let w = c.start_word-word.ensures in
    let there = ap (λ (v : View _). get_elem? v.rows c.args.target) c.self.view_is ∙ r.row.1 in (
      p.0 ∙ sym d.0,
      subst (λ (t : _). c.start_word-word.result < t.words) (sym d.0) w.1,
      rw d.1 (fills_start g.A.Automaton.starts g.A.Automaton.leads g.B.Home.plan _ _ c.start_word-word.result (c.args.target + 1)
          r.guest.0 c.args.start c.args.target r.row.0 _
          (step c.desk.result.now.table_id.slots c.start_word-word.result (c.args.target + 1) 0 none) refl refl
          (ap (λ (v : View _). v.spent) p.2) (ap (λ (v : View _). v.is_book) p.2)
          (ap (λ (v : View _). has r.guest.0 v.holds) c.self.view_is ∙ r.guest.1)
          w.0 r.place.0 there r.row.2 refl (λ y m. r.empty y
          (subst (λ (v : View _). Among (Start c.args.start y) v.facts) c.self.view_is m))
          (λ z m. r.row.3 z (subst (λ (v : View _). Among z v.loose) c.self.view_is m))),
    )

pub invariant_of-self : goal.invariant_of-self
invariant_of-self g c =
    let p = c.self.invariant in
    let r = c.requires in
    let e = c.store.ensures in
    let there = ap (λ (v : View _). get_elem? v.rows c.args.target) c.self.view_is ∙ r.row.1 in
    let is = (e.2.1 c.args.start c.args.target r.row.0 r.place.0 c.start_word-word.ensures.0 refl there).1 in
    (e.0 ∙ p.0, e.2.0 ∙ p.1, filled_bench c.self.inside.rows.0 _ _ _ ((c.args.target, r.row.0) ∷ []) is p.2, p.3)

pub returns : goal.returns
returns g c = λ y row.
    let there = ap (λ (v : View _). get_elem? v.rows c.args.target) c.self.view_is ∙ row in
    subst (λ (q : View _). c.store.new.seat.me.0 ≡ filled (Start c.args.start y) ((c.args.target, y) ∷ []) q) c.self.view_is
    ((c.store.ensures.2.1 c.args.start c.args.target y c.requires.place.0 c.start_word-word.ensures.0 refl there).1)
