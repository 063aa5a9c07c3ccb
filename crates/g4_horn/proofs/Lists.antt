-- Items of lists by their index, after one of them is replaced.
use Rattle.std.proofs.Common.{◌≡◌, ℕ, zero, suc, ◌+◌, ◌<◌, ◌⊎◌, inl, inr, List, [], ◌∷◌, length, get_or, set, Bool, true, false, not, cond, Some, refl, ap, arith}
use Rattle.std.specs.List.{slice_get, Contains, count_by}
use Rattle.std.proofs.lemmas.Option.{same_Some, slice_get_within, get_or_from_slice_get}
use Rattle.std.proofs.lemmas.List.Sums.{sum_by-set}

-- an item is the first one or one of the rest
pub Contains-cons_cases : {X : Type 0} (x : X) (xs : List X) (y : X) → Contains (x ∷ xs) y → (x ≡ y) ⊎ Contains xs y
Contains-cons_cases x xs y (zero, within, is) = inl is
Contains-cons_cases x xs y (suc k, within, is) = inr (k, omega (arith, within), is)

-- no item is in an empty list
pub Contains-nil : {X : Type 0} (x : X) → Contains [] x → ⊥
Contains-nil x h = omega (arith, h.1)

-- an item by its index is in the list
pub Contains-from_slice_get : {X : Type 0} (xs : List X) (k : ℕ) (x : X) → slice_get xs k ≡ Some x → Contains xs x
Contains-from_slice_get xs k x at = (k, slice_get_within xs k x at, get_or_from_slice_get xs k x x at)

-- the new item
pub slice_get-set_same : {X : Type 0} (xs : List X) (i : ℕ) (x : X) → i < length xs → slice_get (set xs i x) i ≡ Some x
slice_get-set_same [] i x within = absurd (omega (arith, within))
slice_get-set_same (y ∷ xs) zero x within = refl
slice_get-set_same (y ∷ xs) (suc i) x within = slice_get-set_same xs i x (omega (arith, within))

-- an item is the new one or an old one at another index
pub slice_get-set_cases : {X : Type 0} (xs : List X) (i : ℕ) (x : X) (k : ℕ) (y : X) → slice_get (set xs i x) k ≡ Some y
    → ((k ≡ i) × (x ≡ y)) ⊎ ((k ≡ i → ⊥) × (slice_get xs k ≡ Some y))
slice_get-set_cases [] i x k y at = inr (λ e. cc, at)
slice_get-set_cases (z ∷ xs) zero x zero y at = inl (refl, same_Some x y at)
slice_get-set_cases (z ∷ xs) zero x (suc k) y at = inr (λ e. omega (arith, e), at)
slice_get-set_cases (z ∷ xs) (suc i) x zero y at = inr (λ e. omega (arith, e), at)
slice_get-set_cases (z ∷ xs) (suc i) x (suc k) y at = elim (slice_get-set_cases xs i x k y at) [
  | inl new ↦ inl (ap suc new.0, new.1)
  | inr old ↦ inr (λ e. old.0 (omega (arith, e)), old.1)
]

-- an old item is replaced or still there
pub slice_get-set_old : {X : Type 0} (xs : List X) (i : ℕ) (x : X) (k : ℕ) (y : X) → slice_get xs k ≡ Some y
    → ((k ≡ i) × (slice_get (set xs i x) k ≡ Some x)) ⊎ (slice_get (set xs i x) k ≡ Some y)
slice_get-set_old [] i x k y at = inr at
slice_get-set_old (z ∷ xs) zero x zero y at = inl (refl, refl)
slice_get-set_old (z ∷ xs) zero x (suc k) y at = inr at
slice_get-set_old (z ∷ xs) (suc i) x zero y at = inr at
slice_get-set_old (z ∷ xs) (suc i) x (suc k) y at = elim (slice_get-set_old xs i x k y at) [
  | inl new ↦ inl (ap suc new.0, new.1)
  | inr old ↦ inr old
]

-- a list of answers says yes at an index, or does not
pub says_or_not : (answers : List Bool) (k : ℕ) → (slice_get answers k ≡ Some true) ⊎ (slice_get answers k ≡ Some true → ⊥)
says_or_not [] k = inr (λ e. cc)
says_or_not (true ∷ answers) zero = inl refl
says_or_not (false ∷ answers) zero = inr (λ e. cc)
says_or_not (b ∷ answers) (suc k) = says_or_not answers k

-- an answer that is not yes
not_said : (answers : List Bool) (k : ℕ) → k < length answers → (slice_get answers k ≡ Some true → ⊥) → get_or answers k true ≡ false
not_said [] k within open_there = absurd (omega (arith, within))
not_said (true ∷ answers) zero within open_there = absurd (open_there refl)
not_said (false ∷ answers) zero within open_there = refl
not_said (b ∷ answers) (suc k) within open_there = not_said answers k (omega (arith, within)) open_there

-- one more answer is yes: one fewer is not
pub one_fewer : (answers : List Bool) (k : ℕ) → k < length answers → (slice_get answers k ≡ Some true → ⊥)
    → count_by not (set answers k true) + 1 ≡ count_by not answers
one_fewer answers k within open_there =
    let sums : count_by not (set answers k true) + cond (not (get_or answers k true)) 1 0 ≡ count_by not answers + 0 =
    sum_by-set (λ (b : Bool). cond (not b) 1 0) answers k true true within in
    let was : ◌≡◌ {A = ℕ} (cond (not (get_or answers k true)) 1 0) 1 =
    ap (λ (b : Bool). cond (not b) 1 0) (not_said answers k within open_there) in
    omega (arith, sums, was)

-- what is said stays said
pub said_still : (answers : List Bool) (i k : ℕ) → slice_get answers k ≡ Some true → slice_get (set answers i true) k ≡ Some true
said_still answers i k said = elim (slice_get-set_old answers i true k true said) [ inl new ↦ new.1 | inr old ↦ old ]
