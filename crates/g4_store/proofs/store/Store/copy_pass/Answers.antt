use Rattle.std.proofs.Common.{[], refl, sym, ap, ◌∙◌, subst}
use Rattle.g4_store.specs.declared.view.View.{View}
use Rattle.g4_store.specs.Known.{KnowsRows}
use Rattle.g4_store.specs.Numbers.{has}
use Rattle.g4_store.specs.Views.{IsPassView}
use Rattle.g4_store.proofs.Lists.{here_insert}
use Rattle.g4_store.proofs.Moves.{copies}
use Rattle.g4_store.proofs.store.Store.copy_pass.Goals as goal

pub split_seat-requires : goal.split_seat-requires
split_seat-requires g c =
    let p = c.pass.invariant in
    let d = c.desk.ensures in (
      p.0 ∙ sym d.0,
      d.3,
      rw d.1 (copies g.A.Automaton.starts g.A.Automaton.leads g.B.Home.plan _ _ (ap (λ (v : View _). v.spent) p.2)
          (ap (λ q. has 0 q.0.holds) c.pass.view_is ∙ c.requires) (ap (λ (v : View _). v.is_book) p.2)),
    )

pub invariant_of-result : goal.invariant_of-result
invariant_of-result g c =
    let e = c.split_seat.ensures in
    let p = c.pass.invariant in
    let is = ap (λ m. m.0) e.4 in (
      e.3 ∙ p.0,
      ap (λ m. m.1) e.4,
      subst (λ (u : View _). IsPassView u) (sym is) refl,
      (
        c.pass.inside.seat.me.0.count,
        ap (λ m. has c.pass.inside.seat.me.0.count m.0.holds) e.4
            ∙ here_insert c.pass.inside.seat.me.0.count [],
      ),
      subst (λ (u : View _). KnowsRows g.B.Home.plan.rows (u, c.pass.inside.full)) (sym is) record { are = p.4.are; all = p.4.all },
    )
