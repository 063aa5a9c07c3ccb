use Rattle.std.proofs.Common.{◌≡◌, Bool, refl, sym, ap, ◌∙◌, subst}
use Rattle.atomic_table.specs.Table.{step}
use mathlib.Core.Option.{none}
use Rattle.g4_store.specs.declared.view.View.{View}
use Rattle.g4_store.specs.Known.{AreRows, KnowsRows}
use Rattle.g4_store.specs.Numbers.{has}
use Rattle.g4_store.specs.Views.{IsPassView, met}
use Rattle.g4_store.proofs.Known.{met_rows}
use Rattle.g4_store.proofs.Lists.{left_union}
use Rattle.g4_store.proofs.Loads.{reviews}
use Rattle.g4_store.proofs.Moves.{meets}
use Rattle.g4_store.proofs.store.Store.meet.Goals as goal

pub join_seat-requires : goal.join_seat-requires
join_seat-requires g c =
    let p = c.pass.invariant in
    let o = c.other.invariant in
    let d = c.desk-desk.ensures in (
      p.0 ∙ sym d.0,
      o.0 ∙ sym d.0,
      o.1,
      d.3,
      rw d.1
          (meets g.A.Automaton.starts g.A.Automaton.leads g.B.Home.plan _ _ _ _ (ap (λ (v : View _). v.spent) p.2)
          (ap (λ (v : View _). v.spent) o.2)),
    )

pub load-requires : goal.load-requires
load-requires g c =
    let p = c.pass.invariant in
    let d = c.desk-desk.ensures in
    let j = c.join_seat.ensures in (
      j.0 ∙ (p.0 ∙ sym d.0),
      d.3,
      rw d.1
          (reviews g.A.Automaton.starts g.A.Automaton.leads g.B.Home.plan _ _ 0 _ (step c.desk-desk.result.now.table_id.slots 0 0 0 none)
          (ap (λ m. m.0.spent) j.2)),
    )

pub invariant_of-pass : goal.invariant_of-pass
invariant_of-pass g c =
    let j = c.join_seat.ensures in
    let e = c.load.ensures in
    let p = c.pass.invariant in
    let is : c.load.new.seat.me.0 ≡ met c.pass.inside.seat.me.0 c.other.inside.seat.me.0 = e.2.1 ∙ ap (λ m. m.0) j.2 in (
      e.0 ∙ (j.0 ∙ p.0),
      e.2.0 ∙ (ap (λ m. m.1) j.2 ∙ p.1),
      subst (λ (u : View _). IsPassView u) (sym is) refl,
      (
        p.3.0,
        ap (λ (u : View _). has p.3.0 u.holds) is
            ∙ left_union p.3.0 c.pass.inside.seat.me.0.holds c.other.inside.seat.me.0.holds p.3.1,
      ),
      subst (λ (b : Bool). KnowsRows g.B.Home.plan.rows (c.load.new.seat.me.0, b)) (sym c.either-pass-inside.ensures)
          (met_rows g.B.Home.plan.rows c.pass.inside.seat.me.0 c.other.inside.seat.me.0 c.load.new.seat.me.0 c.pass.inside.full
          c.other.inside.full p.4 c.other.invariant.4 is (subst (λ (u : View _). AreRows g.B.Home.plan.rows u.known) (sym e.2.1) e.2.2)),
    )
