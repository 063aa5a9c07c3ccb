-- Tests and lists that are worked through item by item.
use Rattle.std.proofs.Common.{◌≡◌, ◌↔◌, ℕ, zero, suc, ◌+◌, ◌⊎◌, inl, inr, List, [], ◌∷◌, ◌++◌, length, drop, Bool, true, false, ◌||◌, ◌&&◌, IsTrue, Some, refl, sym, ap, ◌∙◌, arith}
use Rattle.std.specs.List.{slice_get, Contains}
use Rattle.std.proofs.lemmas.List.{drop_more}
use Rattle.std.proofs.lemmas.Option.{slice_get_within, get_or_from_slice_get, same_Some}

-- the items from an index on
pub drop_at : {X : Type 0} (xs : List X) (i : ℕ) (x : X) → slice_get xs i ≡ Some x → drop i xs ≡ x ∷ drop (i + 1) xs
drop_at xs i x at = drop_more xs i x (slice_get_within xs i x at) ∙ ap (λ (y : _). y ∷ drop (i + 1) xs) (get_or_from_slice_get xs i x x at)

-- no item is in an empty list
pub in_nothing : {X : Type 0} (x : X) → Contains [] x → ⊥
in_nothing x h = omega (arith, h.1)

-- the item that is pushed, or one from before
pub pushed_cases : {X : Type 0} (xs : List X) (y : X) (k : ℕ) (x : X) → slice_get (xs ++ y ∷ []) k ≡ Some x
    → (slice_get xs k ≡ Some x) ⊎ ((k ≡ length xs) × (y ≡ x))
pushed_cases [] y zero x at = inr (refl, same_Some y x at)
pushed_cases [] y (suc k) x at = absurd (let n : ⊥ = cc in n)
pushed_cases (z ∷ xs) y zero x at = inl at
pushed_cases (z ∷ xs) y (suc k) x at = elim (pushed_cases xs y k x at) [ inl old ↦ inl old | inr new ↦ inr (ap suc new.0, new.1) ]

-- either of two tests holds
true_or : (c a b : Bool) → c ≡ (a || b) → IsTrue c ↔ (IsTrue a ⊎ IsTrue b)
true_or c true b is = (λ h. inl refl, λ h. is)
true_or c false b is = (λ h. inr (sym is ∙ h), λ h. elim h [ inl p ↦ absurd (cc) | inr q ↦ is ∙ q ])

-- both of two tests hold
true_and : (c a b : Bool) → c ≡ (a && b) → IsTrue c ↔ (IsTrue a × IsTrue b)
true_and c true b is = (λ h. (refl, sym is ∙ h), λ h. is ∙ h.1)
true_and c false b is = (λ h. absurd (cc), λ h. absurd (cc))

-- a test of two facts
pub or_tells : (X Y : Type 0) (c a b : Bool) → c ≡ (a || b) → (IsTrue a ↔ X) → (IsTrue b ↔ Y) → IsTrue c ↔ (X ⊎ Y)
or_tells X Y c a b is x y = (
  λ h. elim ((true_or c a b is).0 h) [ inl p ↦ inl (x.0 p) | inr q ↦ inr (y.0 q) ],
  λ h. (true_or c a b is).1 (elim h [ inl p ↦ inl (x.1 p) | inr q ↦ inr (y.1 q) ]),
)

-- one more item of which one must do
pub or_more : (X S R A : Type 0) (new old next : Bool) → new ≡ (old || next) → (IsTrue next ↔ X) → (S ↔ (X ⊎ R))
    → ((IsTrue old ⊎ S) ↔ A) → (IsTrue new ⊎ R) ↔ A
or_more X S R A new old next is x s all = (λ h. all.0 (to h), λ a. from (all.1 a))
  where
    to : IsTrue new ⊎ R → IsTrue old ⊎ S
    to (inl n) = elim ((true_or new old next is).0 n) [ inl o ↦ inl o | inr m ↦ inr (s.1 (inl (x.0 m))) ]
    to (inr r) = inr (s.1 (inr r))

    from : IsTrue old ⊎ S → IsTrue new ⊎ R
    from (inl o) = inl ((true_or new old next is).1 (inl o))
    from (inr t) = elim (s.0 t) [ inl p ↦ inl ((true_or new old next is).1 (inr (x.1 p))) | inr r ↦ inr r ]

-- one more item of which each must do
pub and_more : (X S R A : Type 0) (new old next : Bool) → new ≡ (old && next) → (IsTrue next ↔ X) → (S ↔ (X × R))
    → ((IsTrue old × S) ↔ A) → (IsTrue new × R) ↔ A
and_more X S R A new old next is x s all = (
  λ h. let both = (true_and new old next is).0 h.0 in all.0 (both.0, s.1 (x.0 both.1, h.1)),
  λ a. let before = all.1 a in let parts = s.0 before.1 in ((true_and new old next is).1 (before.0, x.1 parts.0), parts.1),
)
