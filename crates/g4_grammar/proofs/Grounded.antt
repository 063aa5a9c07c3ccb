-- Where no rule reaches itself by left calls, no left calls go on without end.
use Rattle.std.proofs.Common.{◌≡◌, ℕ, zero, suc, ◌+◌, ◌<◌, ◌⊎◌, inl, inr, List, [], ◌∷◌, ◌++◌, length, length-append, eqb, true, true≢false, refl, sym, subst, arith}
use Rattle.std.specs.Cmp.{nat_eq_equiv}
use Rattle.std.specs.List.{IsDistinct, list_any}
use Rattle.std.proofs.lemmas.Bool.{cases_Bool}
use Rattle.std.proofs.lemmas.Bool.Decides.{nat_tests}
use Rattle.std.proofs.lemmas.Map.Keys.{IsDistinct-push}
use Rattle.std.proofs.lemmas.Map.Steps.{length-le_from_distinct_below}
use Rattle.std.proofs.lemmas.Option.{slice_get_within}
use Rattle.g4_source.specs.Elements.{Alternatives}
use Rattle.g4_grammar.specs.LeftCalls.{LeftCalls, ReachesLeft, one_call, more_calls, NoLeftCycle}

-- no left calls go on from the rule without end
pub data Grounded {A : Type 0} (Reads : A → List ℕ → Type 0) (Calls : A → ℕ → Type 0) (rules : List (Alternatives A)) : ℕ → Type 0 where
  grounded : (k : ℕ) → ((j : ℕ) → LeftCalls Reads Calls rules k j → Grounded Reads Calls rules j) → Grounded Reads Calls rules k

-- the number is one of the list
abbrev IsPassed : List ℕ → ℕ → Type 0
IsPassed passed k = list_any (eqb k) passed ≡ true

-- a number of a list with one more at its end is one of the list, or that one
passed_or_last : (passed : List ℕ) (j k : ℕ) → IsPassed (passed ++ j ∷ []) k → IsPassed passed k ⊎ (k ≡ j)
passed_or_last [] j k h = inr (grind (arith, nat_tests))
passed_or_last (i ∷ passed) j k h = elim (cases_Bool (eqb k i)) [
  | inl same ↦ inl (rw same refl)
  | inr other ↦ elim (passed_or_last passed j k (rw other at h)) [ inl before ↦ inl (rw other before) | inr last ↦ inr last ]
]

module _ {A : Type 0} (Reads : A → List ℕ → Type 0) (Calls : A → ℕ → Type 0) (rules : List (Alternatives A))
    (no_cycle : NoLeftCycle Reads Calls rules) where
  -- Rules that reach this one by left calls are as many as were passed, and at most as many as there are.
  ground : (left j : ℕ) (passed : List ℕ) → ((i : ℕ) → IsPassed passed i → ReachesLeft Reads Calls rules i j) → IsDistinct eqb passed
      → ((i : ℕ) → IsPassed passed i → i < length rules) →
      length rules < left + length passed → Grounded Reads Calls rules j
  ground zero j passed reach apart within enough = let few = length-le_from_distinct_below passed (length rules) apart within in
      absurd (omega arith)
  ground (suc left) j passed reach apart within enough = grounded j (λ i l. ground left i (passed ++ j ∷ [])
      (λ k h. elim (passed_or_last passed j k h) [
        | inl before ↦ more_calls j i (reach k before) l
        | inr same ↦ one_call i
            (subst (λ (m : ℕ). LeftCalls Reads Calls rules m i) (sym same) l)
      ])
      (IsDistinct-push nat_eq_equiv passed j apart
      (elim (cases_Bool (list_any (eqb j) passed)) [ inl back ↦ absurd (no_cycle j (reach j back)) | inr new ↦ new ]))
      (λ k h. elim (passed_or_last passed j k h)
      [ inl before ↦ within k before | inr same ↦ subst (λ (m : ℕ). m < length rules) (sym same) (slice_get_within rules j l.0 l.1) ])
      (let size = length-append passed (j ∷ []) in omega (arith, enough)))

  -- no left calls go on from any rule without end
  pub all_grounded : (k : ℕ) → Grounded Reads Calls rules k
  unfolding IsDistinct
  all_grounded k = ground (suc (length rules)) k [] (λ i h. absurd (true≢false (sym h))) tt (λ i h. absurd (true≢false (sym h)))
      (omega arith)
