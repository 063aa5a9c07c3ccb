use Rattle.std.proofs.Common.{◌≡◌, ◌++◌, Bool, refl, sym, ap, ◌∙◌, subst}
use Rattle.g4_store.specs.declared.view.View.{View}
use Rattle.g4_store.specs.Numbers.{has}
use Rattle.g4_store.specs.Paths.{BeginsAt, IsKnownRow, LearnedBy, LearnsAll, LearnsPart, cells_of, first_facts}
use Rattle.g4_store.proofs.Known.{learned_rows}
use Rattle.g4_store.proofs.Moves.{leaves}
use Rattle.g4_store.proofs.book.Book.learn.Goals as goal

pub split_seat-guest-requires : goal.split_seat-guest-requires
split_seat-guest-requires g c =
    let p = c.pass.invariant in
    let d = c.desk.ensures in
    (p.0 ∙ sym d.0, d.3, rw d.1 (leaves g.A.Automaton.starts g.A.Automaton.leads g.B.Home.plan _ _ (ap (λ (v : View _). v.spent) p.2)))

pub invariant_of-pass : goal.invariant_of-pass
invariant_of-pass g c =
    let e = c.learn_for-seat.ensures in
    let p = c.pass.invariant in
    let (x, begins, on) = c.requires in
    let guest : c.split_seat-guest.result.me.0 ≡ c.pass.inside.seat.me.0 = ap (λ m. m.0) c.split_seat-guest.ensures.4 ∙ sym p.2 in
    let same : c.split_seat-guest.result.me.0 ≡ c.args.pass.now.0 = guest ∙ ap (λ q. q.0) c.pass.view_is in
    let facts = first_facts c.args.origin x ++ cells_of x c.args.looked.items in
    let there = subst (λ (v : View _). BeginsAt g.A.Automaton.starts g.B.Home.plan (IsKnownRow v) c.args.origin x) (sym same) begins in
    let part : LearnsPart g.B.Home.plan.rows facts c.split_seat-guest.result.me.0 c.learn_for-seat.result.0.me.0 =
    subst (λ (b : Bool). LearnedBy g.B.Home.plan.rows facts c.split_seat-guest.result.me.0 c.learn_for-seat.result.0.me.0 b) c.if-full.true
    (e.learned x there) in (
      e.seat.0,
      e.seat.1,
      e.seat.2,
      (p.3.0, ap (λ l. has p.3.0 l) (part.learns.holds ∙ ap (λ (v : View _). v.holds) guest) ∙ p.3.1),
      record { are = e.rows; all = λ _. part.full },
    )

pub returns-then-full-clause-learned : goal.returns-then-full-clause-learned
returns-then-full-clause-learned g c = λ x begins.
    let e = c.learn_for-seat.ensures in
    let p = c.pass.invariant in
    let guest : c.split_seat-guest.result.me.0 ≡ c.pass.inside.seat.me.0 = ap (λ m. m.0) c.split_seat-guest.ensures.4 ∙ sym p.2 in
    let same : c.split_seat-guest.result.me.0 ≡ c.args.pass.now.0 = guest ∙ ap (λ q. q.0) c.pass.view_is in
    let facts = first_facts c.args.origin x ++ cells_of x c.args.looked.items in
    let there = subst (λ (v : View _). BeginsAt g.A.Automaton.starts g.B.Home.plan (IsKnownRow v) c.args.origin x) (sym same) begins in
    let part : LearnsPart g.B.Home.plan.rows facts c.split_seat-guest.result.me.0 c.learn_for-seat.result.0.me.0 =
    subst (λ (b : Bool). LearnedBy g.B.Home.plan.rows facts c.split_seat-guest.result.me.0 c.learn_for-seat.result.0.me.0 b) c.if-full.true
    (e.learned x there) in
    (subst (λ (v : View _). LearnsPart g.B.Home.plan.rows facts v c.learn_for-seat.result.0.me.0) same part, refl)

pub returns-then-full-clause-rows : goal.returns-then-full-clause-rows
returns-then-full-clause-rows g c = (invariant_of-pass g c).4

pub invariant_of-pass-else-full : goal.invariant_of-pass-else-full
invariant_of-pass-else-full g c =
    let e = c.learn_for-seat.ensures in
    let p = c.pass.invariant in
    let (x, begins, on) = c.requires in
    let guest : c.split_seat-guest.result.me.0 ≡ c.pass.inside.seat.me.0 = ap (λ m. m.0) c.split_seat-guest.ensures.4 ∙ sym p.2 in
    let same : c.split_seat-guest.result.me.0 ≡ c.args.pass.now.0 = guest ∙ ap (λ q. q.0) c.pass.view_is in
    let facts = first_facts c.args.origin x ++ cells_of x c.args.looked.items in
    let there = subst (λ (v : View _). BeginsAt g.A.Automaton.starts g.B.Home.plan (IsKnownRow v) c.args.origin x) (sym same) begins in
    let all : LearnsAll facts c.split_seat-guest.result.me.0 c.learn_for-seat.result.0.me.0 =
    subst (λ (b : Bool). LearnedBy g.B.Home.plan.rows facts c.split_seat-guest.result.me.0 c.learn_for-seat.result.0.me.0 b) c.if-full.false
    (e.learned x there) in (
      e.seat.0,
      e.seat.1,
      e.seat.2,
      (p.3.0, ap (λ l. has p.3.0 l) (all.learns.holds ∙ ap (λ (v : View _). v.holds) guest) ∙ p.3.1),
      learned_rows g.B.Home.plan.rows facts c.pass.inside.seat.me.0 c.learn_for-seat.result.0.me.0 c.pass.inside.full p.4
          (subst (λ (v : View _). LearnsAll facts v c.learn_for-seat.result.0.me.0) guest all) e.rows,
    )

pub returns-clause-rows : goal.returns-clause-rows
returns-clause-rows g c = (invariant_of-pass-else-full g c).4

pub returns-clause-learned : goal.returns-clause-learned
returns-clause-learned g c = λ x begins.
    let e = c.learn_for-seat.ensures in
    let p = c.pass.invariant in
    let guest : c.split_seat-guest.result.me.0 ≡ c.pass.inside.seat.me.0 = ap (λ m. m.0) c.split_seat-guest.ensures.4 ∙ sym p.2 in
    let same : c.split_seat-guest.result.me.0 ≡ c.args.pass.now.0 = guest ∙ ap (λ q. q.0) c.pass.view_is in
    let facts = first_facts c.args.origin x ++ cells_of x c.args.looked.items in
    let there = subst (λ (v : View _). BeginsAt g.A.Automaton.starts g.B.Home.plan (IsKnownRow v) c.args.origin x) (sym same) begins in
    let all : LearnsAll facts c.split_seat-guest.result.me.0 c.learn_for-seat.result.0.me.0 =
    subst (λ (b : Bool). LearnedBy g.B.Home.plan.rows facts c.split_seat-guest.result.me.0 c.learn_for-seat.result.0.me.0 b) c.if-full.false
    (e.learned x there) in
    (subst (λ (v : View _). LearnsAll facts v c.learn_for-seat.result.0.me.0) same all, ap (λ q. q.1) c.pass.view_is)
