use Rattle.std.proofs.Common.{List, ◌++◌, sym, ap, ◌∙◌, subst}
use Rattle.g4_store.specs.declared.view.View.{View}
use Rattle.g4_store.specs.Views.{IsBookOf, book_view, count_of}
use Rattle.g4_store.specs.Numbers.{union}
use Rattle.g4_store.proofs.Moves.{takes_in}
use Rattle.g4_store.proofs.bench.Bench.host.Goals as goal

pub join_seat-requires : goal.join_seat-requires
join_seat-requires g c =
    let p = c.self.invariant in
    let d = c.desk.ensures in
    let r = c.requires in (
      p.0 ∙ sym d.0,
      r.guest.0 ∙ sym d.0,
      r.guest.1,
      d.3,
      rw d.1 (takes_in g.A.Automaton.starts g.A.Automaton.leads g.B.Home.plan _ _ _ _ (ap (λ (v : View _). v.spent) p.2)
          (ap (λ (v : View _). v.is_book) p.2) (ap (λ (v : View _). v.loose) c.self.view_is ∙ r.tight) r.guest.2),
    )

pub invariant_of-self : goal.invariant_of-self
invariant_of-self g c =
    let p = c.self.invariant in
    let j = c.join_seat.ensures in
    let is = ap (λ m. m.0) j.2 in
    let rows = ap (λ (v : View _). v.rows) p.2 in (
      j.0 ∙ p.0,
      ap (λ m. m.1) j.2 ∙ p.1,
      subst (λ (u : View _). IsBookOf c.self.inside.rows.0 u) (sym is)
          (ap (λ (l : List _). book_view l c.self.inside.seat.me.0.loose c.self.inside.seat.me.0.facts
          (c.self.inside.seat.me.0.seen ++ c.args.guest.me.0.seen) (c.self.inside.seat.me.0.taught ++ c.args.guest.me.0.taught)
          (c.self.inside.seat.me.0.known ++ c.args.guest.me.0.known) (union c.self.inside.seat.me.0.holds c.args.guest.me.0.holds)
          (count_of c.self.inside.seat.me.0 c.args.guest.me.0) c.args.guest.me.0.looks) rows),
      p.3,
    )
