-- Members of lists.
use Rattle.std.proofs.Common.{◌≡◌, ℕ, zero, suc, ◌+◌, ◌<◌, ◌⊎◌, inl, inr, List, [], ◌∷◌, ◌++◌, length, get_or, Bool, true, false, cond, sym, ap, ◌∙◌, subst, arith}
use Rattle.std.specs.List.{Contains, filter, range_with_len}
use Rattle.std.specs.List.Sorted.{IsStrictlyIncreasing}
use Rattle.std.proofs.lemmas.List.FromFn.{length-range_with_len, get_or-range_with_len}

-- an item is the first one or one of the rest
pub Contains-cons_cases : (x : ℕ) (xs : List ℕ) (y : ℕ) → Contains (x ∷ xs) y → (x ≡ y) ⊎ Contains xs y
Contains-cons_cases x xs y (zero, within, is) = inl is
Contains-cons_cases x xs y (suc k, within, is) = inr (k, omega (arith, within), is)

-- no item is in an empty list
pub Contains-nil : (x : ℕ) → Contains [] x → ⊥
Contains-nil x h = omega (arith, h.1)

-- the first item
pub Contains-first : (x : ℕ) (xs : List ℕ) (y : ℕ) → x ≡ y → Contains (x ∷ xs) y
Contains-first x xs y is = (0, omega arith, is)

-- and one of the rest
pub Contains-rest : (x : ℕ) (xs : List ℕ) (y : ℕ) → Contains xs y → Contains (x ∷ xs) y
Contains-rest x xs y (k, within, is) = (suc k, omega (arith, within), is)

-- an item that passes a test is among those that do
pub Contains-filter : (f : ℕ → Bool) (xs : List ℕ) (y : ℕ) → f y ≡ true → Contains xs y → Contains (filter f xs) y
Contains-filter f [] y passes has = absurd (Contains-nil y has)
Contains-filter f (x ∷ xs) y passes has = elim (Contains-cons_cases x xs y has) [
  | inl same ↦ (
      let here : f x ≡ true = ap f same ∙ passes in
      subst (λ (b : Bool). Contains (cond b (x ∷ filter f xs) (filter f xs)) y) (sym here) (Contains-first x (filter f xs) y same)
      )
  | inr other ↦ in_either (f x) (Contains-filter f xs y passes other)
]
  where
    in_either : (b : Bool) → Contains (filter f xs) y → Contains (cond b (x ∷ filter f xs) (filter f xs)) y
    in_either true there = Contains-rest x (filter f xs) y there
    in_either false there = there

-- a number below another is in the range to it
pub Contains-range : (n p : ℕ) → p < n → Contains (range_with_len 0 n) p
Contains-range n p less =
    let within : p < length (range_with_len 0 n) = omega (arith, length-range_with_len 0 n, less) in
    let e : 0 + p ≡ p = omega arith in
    (p, within, get_or-range_with_len 0 n p p less ∙ e)

-- a range rises
pub range_rises : (a n : ℕ) → IsStrictlyIncreasing (range_with_len a n)
range_rises a n k within =
    let long : length (range_with_len a n) ≡ n = length-range_with_len a n in
    let one : get_or (range_with_len a n) k 0 ≡ a + k = get_or-range_with_len a n k 0 (omega (arith, within, long)) in
    let two : get_or (range_with_len a n) (k + 1) 0 ≡ a + (k + 1) = get_or-range_with_len a n (k + 1) 0 (omega (arith, within, long)) in
    omega (arith, one, two)

-- a range that is one longer
range_next : (a n : ℕ) → range_with_len a (suc n) ≡ range_with_len a n ++ (a + n) ∷ []
range_next a zero = let e : a ≡ a + 0 = omega arith in ap (λ (x : ℕ). x ∷ []) e
range_next a (suc n) = let e : a + 1 + n ≡ a + suc n = omega arith in
    ap (λ (xs : List ℕ). a ∷ xs) (range_next (a + 1) n ∙ ap (λ (x : ℕ). range_with_len (a + 1) n ++ x ∷ []) e)

-- the numbers below n, and n itself
pub range_more : (n : ℕ) → range_with_len 0 (n + 1) ≡ range_with_len 0 n ++ n ∷ []
range_more n =
    let one : n + 1 ≡ suc n = omega arith in
    let same : 0 + n ≡ n = omega arith in
    ap (range_with_len 0) one ∙ range_next 0 n ∙ ap (λ (x : ℕ). range_with_len 0 n ++ x ∷ []) same
