-- How many bounds are not past a number.
use Rattle.std.proofs.Common.{◌≡◌, ℕ, zero, suc, ◌+◌, ◌<◌, ◌≤◌, ◌⊎◌, inl, inr, List, [], ◌∷◌, ◌++◌, Bool, true, false, cond, length, get_or, nat_le, ap, arith}
use Rattle.std.proofs.lemmas.Bool.Decides.{nat_tests}
use Rattle.std.proofs.lemmas.List.Sums.{sum_by-cons, sum_by_push}
use Rattle.std.specs.List.{count_by}
use Rattle.std.specs.List.Sorted.{IsStrictlyIncreasing}
use Rattle.std.proofs.lemmas.List.Kept.{AllPairs-from_increasing}
use Rattle.g4_matching.specs.Partitions.{part_in}

-- one that passes counts
counts : (b : Bool) (m n : ℕ) → b ≡ true → m ≡ cond b 1 0 + n → m ≡ n + 1
counts true m n is e = omega arith
counts false m n is e = absurd (cc)

-- one that does not pass counts nothing
skips : (b : Bool) (m n : ℕ) → b ≡ false → m ≡ cond b 1 0 + n → m ≡ n
skips true m n is e = absurd (cc)
skips false m n is e = omega arith

-- where the tests pass up to a place and no further, that many pass
pub counted : (p : ℕ → Bool) (xs : List ℕ) (i : ℕ) → i ≤ length xs → ((k : ℕ) → k < i → p (get_or xs k 0) ≡ true)
    → ((k : ℕ) → i ≤ k → k < length xs → p (get_or xs k 0) ≡ false) → i ≡ count_by p xs
counted p [] i le first rest = omega arith
counted p (x ∷ xs) zero le first rest =
    let h = counted p xs 0 (omega arith) (λ k lt. absurd (omega arith)) (λ k l m. rest (suc k) (omega arith) (omega arith)) in
    let e = skips (p x) (count_by p (x ∷ xs)) (count_by p xs) (rest 0 (omega arith) (omega arith))
    (sum_by-cons (λ b. cond (p b) 1 0) x xs) in
    omega arith
counted p (x ∷ xs) (suc i) le first rest =
    let h = counted p xs i (omega arith) (λ k lt. first (suc k) (omega arith)) (λ k l m. rest (suc k) (omega arith) (omega arith)) in
    let e = counts (p x) (count_by p (x ∷ xs)) (count_by p xs) (first 0 (omega arith)) (sum_by-cons (λ b. cond (p b) 1 0) x xs) in
    omega arith

-- one bound more before the others
pub one_before : (bounds : List ℕ) (y a : ℕ) → part_in (y ∷ bounds) a ≡ cond (nat_le y a) 1 0 + part_in bounds a
one_before bounds y a = sum_by-cons (λ b. cond (nat_le b a) 1 0) y bounds

-- and after them
pub one_after : (bounds : List ℕ) (y a : ℕ) → part_in (bounds ++ y ∷ []) a ≡ part_in bounds a + cond (nat_le y a) 1 0
one_after bounds y a = sum_by_push (λ b. cond (nat_le b a) 1 0) bounds y

-- a test that holds, and one that does not
pub not_past : (b a : ℕ) → b ≤ a → nat_le b a ≡ true
not_past b a le = grind (arith, nat_tests)

pub is_past : (b a : ℕ) → a < b → nat_le b a ≡ false
is_past b a lt = grind (arith, nat_tests)

-- each bound is below a later one
pub later : (bounds : List ℕ) (j k : ℕ) → IsStrictlyIncreasing bounds → j < k → k < length bounds → get_or bounds j 0 < get_or bounds k 0
later bounds j k rising less within = AllPairs-from_increasing bounds rising j k 0 less within

-- the part of a number that is not before a bound, and before the next
pub part_is : (bounds : List ℕ) (i a : ℕ) → IsStrictlyIncreasing bounds → i ≤ length bounds
    → ((k : ℕ) → k < i → get_or bounds k 0 ≤ a) → (i < length bounds → a < get_or bounds i 0) → part_in bounds a ≡ i
part_is bounds i a rising within before after =
    let e = counted (λ b. nat_le b a) bounds i within (λ k less. not_past (get_or bounds k 0) a (before k less))
    (λ k le less. is_past (get_or bounds k 0) a (at k le less)) in
    omega arith
  where
    at : (k : ℕ) → i ≤ k → k < length bounds → a < get_or bounds k 0
    at k le less = elim (split i k) [
      | inl same ↦ (
          let h = after (omega arith) in
          let e : get_or bounds i 0 ≡ get_or bounds k 0 = ap (λ (n : ℕ). get_or bounds n 0) same in
          omega arith)
      | inr before ↦ (let h = after (omega arith) in let l = later bounds i k rising (other i k le before) less in omega arith)
    ]
      where
        split : (m n : ℕ) → (m ≡ n) ⊎ (m ≡ n → ⊥)
        split m n = grind arith

        other : (m n : ℕ) → m ≤ n → (m ≡ n → ⊥) → m < n
        other m n le never = grind arith
