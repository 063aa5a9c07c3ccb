-- The least of some numbers.
use Rattle.std.proofs.Common.{◌≡◌, ◌<◌, ◌+◌, ◌⊎◌, inl, inr, ℕ, List, Option, Some, None, min, take, length, get_or, refl, sym, ◌∙◌, subst, arith}
use Rattle.std.proofs.lemmas.Bool.{cases_lt}
use Rattle.g4_cycles.specs.Marks.{distance_of, IsLeast, HasDistance, IsAtDistance, lesser_of}
use Rattle.g4_cycles.proofs.EdgesOf.{taken_cases, taken_before, taken_next}
use Rattle.g4_cycles.proofs.Marking.{same_value, none_or_some}

-- the least of two kinds of numbers is the lesser of the least of each
pub least_of_both : (P Q R : ℕ → Type 0) (a b : Option ℕ) → ((m : ℕ) → P m → R m) → ((m : ℕ) → Q m → R m)
    → ((m : ℕ) → R m → P m ⊎ Q m) → IsLeast P a → IsLeast Q b → IsLeast R (lesser_of a b)
least_of_both P Q R None None left right either la lb = λ m r. elim (either m r) [ inl p ↦ la m p | inr q ↦ lb m q ]
least_of_both P Q R None (Some b) left right either la lb =
    (right b lb.0, λ m r. elim (either m r) [ inl p ↦ absurd (la m p) | inr q ↦ lb.1 m q ])
least_of_both P Q R (Some a) None left right either la lb =
    (left a la.0, λ m r. elim (either m r) [ inl p ↦ la.1 m p | inr q ↦ absurd (lb m q) ])
least_of_both P Q R (Some a) (Some b) left right either la lb = (
  elim (cases_lt a b) [
    | inl less ↦ (let e : min a b ≡ a = omega (arith, less) in subst R (sym e) (left a la.0))
    | inr more ↦ (let e : min a b ≡ b = omega (arith, more) in subst R (sym e) (right b lb.0))
  ],
  λ m r. elim (either m r) [ inl p ↦ omega (arith, la.1 m p) | inr q ↦ omega (arith, lb.1 m q) ],
)

-- the number that an option has
pub least_value : (o : Option ℕ) → IsLeast (λ m. o ≡ Some m) o
least_value None = λ m e. none_or_some None m refl e
least_value (Some a) = (refl, λ m e. omega (arith, same_value (Some a) a m refl e))

module _ (d : List (Option ℕ)) (nodes : List ℕ) where
  -- one more node
  pub distance_more : (i : ℕ) (a b new : Option ℕ) → i < length nodes → b ≡ distance_of d (get_or nodes i 0) → new ≡ lesser_of a b
      → IsLeast (HasDistance d (take i nodes)) a → IsLeast (HasDistance d (take (i + 1) nodes)) new
  distance_more i a b new within is new_is la =
      subst (IsLeast (HasDistance d (take (i + 1) nodes))) (sym new_is)
      (least_of_both (HasDistance d (take i nodes)) (λ m. b ≡ Some m) (HasDistance d (take (i + 1) nodes)) a b
      (λ m h. (h.0, taken_before nodes i h.0 within h.1, h.2))
      (λ m e. (get_or nodes i 0, taken_next nodes i (get_or nodes i 0) within refl, sym is ∙ e))
      (λ m h. elim (taken_cases nodes i (get_or nodes i 0) h.0 within refl h.1)
      [ inl before ↦ inl (h.0, before, h.2) | inr same ↦ inr (is ∙ subst (λ (y : ℕ). distance_of d y ≡ Some m) same h.2) ])
      la (least_value b))

  -- one more node at the distance
  pub at_more : (wanted i : ℕ) (a new : Option ℕ) → i < length nodes → distance_of d (get_or nodes i 0) ≡ Some wanted
      → new ≡ lesser_of a (Some (get_or nodes i 0)) → IsLeast (IsAtDistance d (take i nodes) wanted) a
      → IsLeast (IsAtDistance d (take (i + 1) nodes) wanted) new
  at_more wanted i a new within at new_is la =
      subst (IsLeast (IsAtDistance d (take (i + 1) nodes) wanted)) (sym new_is)
      (least_of_both (IsAtDistance d (take i nodes) wanted) (λ k. Path (Option ℕ) (Some (get_or nodes i 0)) (Some k))
      (IsAtDistance d (take (i + 1) nodes) wanted) a (Some (get_or nodes i 0))
      (λ k h. (taken_before nodes i k within h.0, h.1))
      (λ k e. let same = same_value (Some (get_or nodes i 0)) (get_or nodes i 0) k refl e in
      (taken_next nodes i k within same, subst (λ (y : ℕ). distance_of d y ≡ Some wanted) same at))
      (λ k h. elim (taken_cases nodes i (get_or nodes i 0) k within refl h.0) [
        | inl before ↦ inl (before, h.1)
        | inr same ↦ inr
            (subst (λ (y : ℕ). Path (Option ℕ) (Some (get_or nodes i 0)) (Some y)) (sym same) refl)
      ])
      la (least_value (Some (get_or nodes i 0))))

  -- one more node that is not
  pub at_no_more : (wanted i : ℕ) (a : Option ℕ) → i < length nodes → (distance_of d (get_or nodes i 0) ≡ Some wanted → ⊥)
      → IsLeast (IsAtDistance d (take i nodes) wanted) a → IsLeast (IsAtDistance d (take (i + 1) nodes) wanted) a
  at_no_more wanted i a within not_at la = least_same (IsAtDistance d (take i nodes) wanted) (IsAtDistance d (take (i + 1) nodes) wanted) a
      (λ k h. (taken_before nodes i k within h.0, h.1))
      (λ k h. elim (taken_cases nodes i (get_or nodes i 0) k within refl h.0)
      [ inl before ↦ (before, h.1) | inr same ↦ absurd (not_at (subst (λ (y : ℕ). distance_of d y ≡ Some wanted) same h.1)) ])
      la
    where
      least_same : (P Q : ℕ → Type 0) (o : Option ℕ) → ((m : ℕ) → P m → Q m) → ((m : ℕ) → Q m → P m) → IsLeast P o → IsLeast Q o
      least_same P Q None to from l = λ m q. l m (from m q)
      least_same P Q (Some m) to from l = (to m l.0, λ j q. l.1 j (from j q))
