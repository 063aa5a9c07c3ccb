-- How many numbers of a list are below another.
use Rattle.std.proofs.Common.{◌≡◌, ℕ, zero, suc, ◌+◌, ◌<◌, ◌≤◌, List, [], ◌∷◌, Bool, true, false, cond, length, get_or, arith}
use Rattle.std.proofs.lemmas.List.Sums.{sum_by-cons}
use Rattle.std.specs.List.{count_by}

-- one that passes counts
counts : (b : Bool) (m n : ℕ) → b ≡ true → m ≡ cond b 1 0 + n → m ≡ n + 1
counts true m n is e = omega arith
counts false m n is e = absurd (cc)

-- one that does not pass counts nothing
skips : (b : Bool) (m n : ℕ) → b ≡ false → m ≡ cond b 1 0 + n → m ≡ n
skips true m n is e = absurd (cc)
skips false m n is e = omega arith

-- where the tests pass up to an index and no further, that many pass
pub counted : (p : ℕ → Bool) (xs : List ℕ) (i : ℕ) → i ≤ length xs → ((k : ℕ) → k < i → p (get_or xs k 0) ≡ true)
    → ((k : ℕ) → i ≤ k → k < length xs → p (get_or xs k 0) ≡ false) → i ≡ count_by p xs
counted p [] i le first rest = omega arith
counted p (x ∷ xs) zero le first rest =
    let h = counted p xs 0 (omega arith) (λ k lt. absurd (omega arith)) (λ k l m. rest (suc k) (omega arith) (omega arith)) in
    let e = skips (p x) (count_by p (x ∷ xs)) (count_by p xs) (rest 0 (omega arith) (omega arith))
    (sum_by-cons (λ b. cond (p b) 1 0) x xs) in
    omega arith
counted p (x ∷ xs) (suc i) le first rest =
    let h = counted p xs i (omega arith) (λ k lt. first (suc k) (omega arith)) (λ k l m. rest (suc k) (omega arith) (omega arith)) in
    let e = counts (p x) (count_by p (x ∷ xs)) (count_by p xs) (first 0 (omega arith)) (sum_by-cons (λ b. cond (p b) 1 0) x xs) in
    omega arith
