-- Sums over the passes of a deque.
use Rattle.std.proofs.Common.{◌≡◌, ℕ, zero, suc, ◌+◌, ◌≤◌, List, [], ◌∷◌, ◌++◌, ◌==◌, if◌then◌else◌, sum_by, set, sym, refl, ap, arith}
use mathlib.Core.Option.{some, some-injective, some-ne-none}
use lib.ListN.{get_elem?}
use Rattle.std.proofs.lemmas.List.Sums.{sum_by-append, sum_by-cons}
use Rattle.g4_hands.specs.Dealing.{times}

module _ {A : Type 0} (f : A → ℕ) where
  -- one element changes
  pub sum-set : (xs : List A) (i : ℕ) (v w : A) → get_elem? xs i ≡ some v → sum_by f (set xs i w) + f v ≡ sum_by f xs + f w
  sum-set [] i v w e = absurd (some-ne-none v (sym e))
  sum-set (x ∷ xs) zero v w e = let h : f x ≡ f v = ap f (some-injective x v e) in
      omega (arith, h, sum_by-cons f x xs, sum_by-cons f w xs)
  sum-set (x ∷ xs) (suc i) v w e = let h = sum-set xs i v w e in omega (arith, h, sum_by-cons f x xs, sum_by-cons f x (set xs i w))

  -- one element is at most all of them
  pub sum-at : (xs : List A) (i : ℕ) (v : A) → get_elem? xs i ≡ some v → f v ≤ sum_by f xs
  sum-at [] i v e = absurd (some-ne-none v (sym e))
  sum-at (x ∷ xs) zero v e = let h : f x ≡ f v = ap f (some-injective x v e) in omega (arith, h, sum_by-cons f x xs)
  sum-at (x ∷ xs) (suc i) v e = let h = sum-at xs i v e in omega (arith, h, sum_by-cons f x xs)

  -- and so are two of them
  pub sum-two : (xs : List A) (i j : ℕ) (v w : A) → get_elem? xs i ≡ some v → get_elem? xs j ≡ some w → (i ≡ j → ⊥)
      → f v + f w ≤ sum_by f xs
  sum-two [] i j v w e d n = absurd (some-ne-none v (sym e))
  sum-two (x ∷ xs) zero zero v w e d n = absurd (n refl)
  sum-two (x ∷ xs) zero (suc j) v w e d n = let h : f x ≡ f v = ap f (some-injective x v e) in let k = sum-at xs j w d in
      omega (arith, h, k, sum_by-cons f x xs)
  sum-two (x ∷ xs) (suc i) zero v w e d n = let h : f x ≡ f w = ap f (some-injective x w d) in let k = sum-at xs i v e in
      omega (arith, h, k, sum_by-cons f x xs)
  sum-two (x ∷ xs) (suc i) (suc j) v w e d n = let h = sum-two xs i j v w e d (λ q. n (ap suc q)) in omega (arith, h, sum_by-cons f x xs)

-- of two lists one after the other
pub times-append : (x : ℕ) (xs ys : List ℕ) → times x (xs ++ ys) ≡ times x xs + times x ys
times-append x xs ys = sum_by-append (λ y. if y == x then 1 else 0) xs ys
