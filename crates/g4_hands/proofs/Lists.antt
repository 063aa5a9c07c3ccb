-- Lists read by number.
use Rattle.std.proofs.lemmas.List.{set-get_or}
use lib.Seq.{take-append_seam}
use Rattle.std.proofs.Common.{◌≡◌, ◌⊎◌, inl, inr, ℕ, zero, suc, List, [], ◌∷◌, ◌++◌, Some, length, get_or, replicate, take, drop, subst, set, slice_get, refl, ◌∙◌, ap}

pub get_set : {X : Type 0} (xs : List X) (i : ℕ) (v w : X) → slice_get xs i ≡ Some w → slice_get (set xs i v) i ≡ Some v
get_set [] i v w e = cc
get_set (x ∷ xs) zero v w e = refl
get_set (x ∷ xs) (suc i) v w e = get_set xs i v w e

pub get_other : {X : Type 0} (xs : List X) (i k : ℕ) (v : X) → (k ≡ i → ⊥) → slice_get (set xs i v) k ≡ slice_get xs k
get_other [] i k v n = refl
get_other (x ∷ xs) zero zero v n = absurd (n refl)
get_other (x ∷ xs) zero (suc k) v n = refl
get_other (x ∷ xs) (suc i) zero v n = refl
get_other (x ∷ xs) (suc i) (suc k) v n = get_other xs i k v (λ e. n (ap suc e))

-- an element of a list with one more is one of the list, or the new one
pub get_snoc : {X : Type 0} (xs : List X) (x y : X) (i : ℕ) → slice_get (xs ++ x ∷ []) i ≡ Some y
    → (slice_get xs i ≡ Some y) ⊎ ((i ≡ length xs) × (y ≡ x))
get_snoc [] x y zero e = inr (refl, cc)
get_snoc [] x y (suc i) e = cc
get_snoc (z ∷ zs) x y zero e = inl e
get_snoc (z ∷ zs) x y (suc i) e = elim (get_snoc zs x y i e) [ inl h ↦ inl h | inr h ↦ inr (ap suc h.0, h.1) ]

pub get_replicate : {X : Type 0} (n : ℕ) (x y : X) (i : ℕ) → slice_get (replicate n x) i ≡ Some y → y ≡ x
get_replicate zero x y i e = cc
get_replicate (suc n) x y zero e = cc
get_replicate (suc n) x y (suc i) e = get_replicate n x y i e

-- a vector whose slice was written whole
pub written : {X : Type 0} (n : ℕ) (xs ys : List X) → length xs ≡ n → take n (xs ++ drop (length xs) ys) ≡ xs
written n xs ys e = subst (λ (m : ℕ). take m (xs ++ drop (length xs) ys) ≡ xs) e (take-append_seam xs (drop (length xs) ys))

-- an element was replaced by itself
pub same_set : {X : Type 0} (xs : List X) (k : ℕ) (old new : X) → new ≡ old → old ≡ get_or xs k old → set xs k new ≡ xs
same_set xs k old new same at = ap (λ x. set xs k x) (same ∙ at) ∙ set-get_or xs k old
