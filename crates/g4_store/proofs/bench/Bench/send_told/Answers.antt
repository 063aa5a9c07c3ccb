use Rattle.std.proofs.Common.{List, [], sym, ap, ◌∙◌, subst}
use Rattle.g4_store.specs.declared.view.View.{View}
use Rattle.g4_store.specs.Views.{IsBookOf, book_view, no_looks}
use Rattle.g4_store.proofs.Moves.{tells_all}
use Rattle.g4_store.proofs.bench.Bench.send_told.Goals as goal

pub split_seat-requires : goal.split_seat-requires
split_seat-requires g c =
    let p = c.self.invariant in
    let d = c.desk.ensures in
    let r = c.requires in (
      p.0 ∙ sym d.0,
      d.3,
      rw d.1 (tells_all g.A.Automaton.starts g.A.Automaton.leads g.B.Home.plan _ _ (ap (λ (v : View _). v.spent) p.2)
          (ap (λ (v : View _). v.is_book) p.2) (ap (λ (v : View _). v.loose) c.self.view_is ∙ r)),
    )

pub invariant_of-self : goal.invariant_of-self
invariant_of-self g c =
    let p = c.self.invariant in
    let e = c.split_seat.ensures in
    let is = ap (λ m. m.0) e.2 in
    let rows = ap (λ (v : View _). v.rows) p.2 in (
      e.0 ∙ p.0,
      ap (λ m. m.1) e.2 ∙ p.1,
      subst (λ (u : View _). IsBookOf c.self.inside.rows.0 u) (sym is)
          (ap (λ (l : List _). book_view l c.self.inside.seat.me.0.loose c.self.inside.seat.me.0.facts [] [] [] [] 0 no_looks) rows),
      p.3,
    )
