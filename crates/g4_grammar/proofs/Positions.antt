-- The first item of a list of which a test holds, and its place.
use Rattle.std.proofs.Common.{◌≡◌, ◌<◌, ◌⊎◌, inl, inr, ℕ, suc, ◌+◌, List, [], ◌∷◌, length, Bool, true, false, ◌||◌, cond, not, nat_lt, Some, None, refl, ap, subst, arith}
use Rattle.std.specs.List.{list_any, position, position_or_len}
use Rattle.std.proofs.lemmas.Bool.{cases_Bool}
use Rattle.std.proofs.lemmas.Bool.Decides.{nat_tests}

module _ {X : Type 0} (p : X → Bool) (x : X) (xs : List X) where
  -- the first item is the one that is looked for
  pub at_first : p x ≡ true → position p (x ∷ xs) ≡ Some 0
  at_first e = let less : nat_lt 0 (suc (length xs)) ≡ true = grind (arith, nat_tests) in rw e (rw less refl)

  -- it is not, and the item is one of the others
  pub at_later : (k : ℕ) → p x ≡ false → position p xs ≡ Some k → position p (x ∷ xs) ≡ Some (suc k)
  at_later k e is = rw e (by (position_or_len p xs) (length xs) is)
    where
      by : (n l : ℕ) → cond (nat_lt n l) (Some n) None ≡ Some k → cond (nat_lt (1 + n) (suc l)) (Some (1 + n)) None ≡ Some (suc k)
      by n l h = elim (let c : ((nat_lt n l ≡ true) × (nat_lt (1 + n) (suc l) ≡ true)) ⊎ (nat_lt n l ≡ false) =
          grind (arith, nat_tests) in c) [
            | inl e ↦
                let same : Some n ≡ Some k = subst (λ (b : Bool). cond b (Some n) None ≡ Some k) e.0 h in
                let here : n ≡ k = cc in
                let next : 1 + n ≡ suc k = omega (arith, here) in
                rw e.1 (ap (λ (m : ℕ). Some m) next)
            | inr e ↦ let wrong : None ≡ Some k = subst (λ (b : Bool). cond b (Some n) None ≡ Some k) e h in cc
          ]

  -- it is not, so the item is one of the others
  pub from_later : (k : ℕ) → p x ≡ false → position p (x ∷ xs) ≡ Some k → (j : ℕ) × (position p xs ≡ Some j) × (k ≡ suc j)
  from_later k e is =
      by (position_or_len p xs) (length xs)
      (subst (λ (b : Bool). cond (nat_lt (cond (not b) (1 + position_or_len p xs) 0) (length (x ∷ xs)))
      (Some (cond (not b) (1 + position_or_len p xs) 0)) None ≡ Some k) e is)
    where
      by : (n l : ℕ) → cond (nat_lt (1 + n) (suc l)) (Some (1 + n)) None ≡ Some k
          → (j : ℕ) × (cond (nat_lt n l) (Some n) None ≡ Some j) × (k ≡ suc j)
      by n l h = elim (let c : ((nat_lt n l ≡ true) × (nat_lt (1 + n) (suc l) ≡ true)) ⊎ (nat_lt (1 + n) (suc l) ≡ false) =
          grind (arith, nat_tests) in c) [
            | inl e ↦
                let same : Some (1 + n) ≡ Some k = subst (λ (b : Bool). cond b (Some (1 + n)) None ≡ Some k) e.1 h in
                let here : 1 + n ≡ k = cc in
                (n, rw e.0 refl, omega (arith, here))
            | inr e ↦ let wrong : None ≡ Some k = subst (λ (b : Bool). cond b (Some (1 + n)) None ≡ Some k) e h in cc
          ]

-- what is found is within the list
pub found_within : {X : Type 0} (p : X → Bool) (xs : List X) (n : ℕ) → position p xs ≡ Some n → position_or_len p xs < length xs
found_within p xs n is = by (position_or_len p xs) (length xs) is
  where
    by : (i l : ℕ) → cond (nat_lt i l) (Some i) None ≡ Some n → i < l
    by i l h = elim (let c : ((nat_lt i l ≡ true) × (i < l)) ⊎ (nat_lt i l ≡ false) = grind (arith, nat_tests) in c) [
      | inl e ↦ e.1
      | inr e ↦ absurd (let wrong : None ≡ Some n = subst (λ (b : Bool). cond b (Some i) None ≡ Some n) e h in let k : ⊥ = cc in k)
    ]

-- what is within the list is found
pub within_found : {X : Type 0} (p : X → Bool) (xs : List X) → position_or_len p xs < length xs
    → position p xs ≡ Some (position_or_len p xs)
within_found p xs less = let e : nat_lt (position_or_len p xs) (length xs) ≡ true = grind (arith, nat_tests) in rw e refl

-- the place of an item of which the test holds is within the list
any_within : {X : Type 0} (p : X → Bool) (xs : List X) → list_any p xs ≡ true → position_or_len p xs < length xs
any_within p [] h = cc
any_within p (x ∷ xs) h = elim (cases_Bool (p x)) [
  | inl e ↦ rw e (omega arith)
  | inr e ↦
      let rest : list_any p xs ≡ true = subst (λ (b : Bool). (b || list_any p xs) ≡ true) e h in
      let less = any_within p xs rest in rw e (omega (arith, less))
]

-- where the test holds of an item, one is found
pub any_found : {X : Type 0} (p : X → Bool) (xs : List X) → list_any p xs ≡ true → (k : ℕ) × (position p xs ≡ Some k)
any_found p xs h = (position_or_len p xs, within_found p xs (any_within p xs h))
