-- Lookups in lists of states that are put together.
use Rattle.std.proofs.Common.{◌≡◌, ◌≢◌, ℕ, zero, suc, ◌+◌, ◌<◌, ◌⊎◌, inl, inr, List, [], ◌∷◌, ◌++◌, length, refl, ◌∙◌, ap, arith, slice_get, Some}
use Rattle.std.proofs.Math.ListN.{set}
use Rattle.std.proofs.lemmas.List.{length-append}

module _ {X : Type 0} where
  -- what is written is there
  pub get_set_same : (xs : List X) (i : ℕ) (x : X) → i < length xs → slice_get (set xs i x) i ≡ Some x
  get_set_same [] i x less = absurd (omega arith)
  get_set_same (y ∷ xs) zero x less = refl
  get_set_same (y ∷ xs) (suc i) x less = get_set_same xs i x (omega arith)

  -- what is written elsewhere changes nothing
  pub get_set_other : (xs : List X) (i q : ℕ) (x : X) → q ≢ i → slice_get (set xs i x) q ≡ slice_get xs q
  get_set_other [] i q x ne = refl
  get_set_other (y ∷ xs) zero zero x ne = absurd (ne refl)
  get_set_other (y ∷ xs) zero (suc q) x ne = refl
  get_set_other (y ∷ xs) (suc i) zero x ne = refl
  get_set_other (y ∷ xs) (suc i) (suc q) x ne = get_set_other xs i q x (λ e. ne (ap suc e))

  -- what is in a list after a write was written or was there before
  pub set_cases : (xs : List X) (i q : ℕ) (x y : X) → slice_get (set xs i x) q ≡ Some y → (x ≡ y) ⊎ (slice_get xs q ≡ Some y)
  set_cases [] i q x y e = inr e
  set_cases (z ∷ xs) zero zero x y e = inl cc
  set_cases (z ∷ xs) zero (suc q) x y e = inr e
  set_cases (z ∷ xs) (suc i) zero x y e = inr e
  set_cases (z ∷ xs) (suc i) (suc q) x y e = set_cases xs i q x y e

  -- the front part of two lists
  pub get_left : (xs ys : List X) (q : ℕ) → q < length xs → slice_get (xs ++ ys) q ≡ slice_get xs q
  get_left [] ys q less = absurd (omega arith)
  get_left (x ∷ xs) ys zero less = refl
  get_left (x ∷ xs) ys (suc q) less = get_left xs ys q (omega arith)

  -- the other part of two lists
  pub get_right : (xs ys : List X) (q j : ℕ) → q ≡ length xs + j → slice_get (xs ++ ys) q ≡ slice_get ys j
  get_right [] ys q j is = let e : q ≡ j = omega arith in ap (slice_get ys) e
  get_right (x ∷ xs) ys zero j is = absurd (omega arith)
  get_right (x ∷ xs) ys (suc q) j is = get_right xs ys q j (omega arith)

  -- what is in two joined lists is in one of them
  pub append_cases : (xs ys : List X) (q : ℕ) (x : X) → slice_get (xs ++ ys) q ≡ Some x
      → (slice_get xs q ≡ Some x) ⊎ ((j : ℕ) × (slice_get ys j ≡ Some x))
  append_cases [] ys q x e = inr (q, e)
  append_cases (y ∷ xs) ys zero x e = inl e
  append_cases (y ∷ xs) ys (suc q) x e = append_cases xs ys q x e

  -- a list that is pushed to has one item more
  pub length_pushed : (ys xs : List X) (x : X) → ys ≡ xs ++ x ∷ [] → length ys ≡ length xs + 1
  length_pushed ys xs x e = ap length e ∙ length-append xs (x ∷ [])

-- two numbers are the same or not
pub same_or_not : (p q : ℕ) → (p ≡ q) ⊎ (p ≢ q)
same_or_not zero zero = inl refl
same_or_not zero (suc q) = inr (λ e. omega arith)
same_or_not (suc p) zero = inr (λ e. omega arith)
same_or_not (suc p) (suc q) = elim (same_or_not p q) [ inl e ↦ inl (ap suc e) | inr ne ↦ inr (λ e. ne (omega arith)) ]
