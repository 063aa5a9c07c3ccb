-- Marks of the numbers of a list.
use Rattle.std.proofs.Common.{◌≡◌, ◌≢◌, ℕ, ◌+◌, ◌<◌, ◌≤◌, ◌↔◌, ◌⊎◌, inl, inr, List, [], ◌∷◌, ◌++◌, Bool, true, false, true≢false, IsTrue, Contains, length, get_or, take, set, suc, refl, sym, ◌∙◌, ap, subst, arith}
use Rattle.std.proofs.lemmas.List.Elements.{Contains-push, Contains-push_cases, Contains-append_left}
use Rattle.std.proofs.lemmas.Grind.{get_or-set_at}
use Rattle.std.proofs.lemmas.List.{get_or-set_other, length-set}
use Rattle.std.proofs.Math.Decide.{ℕ_discrete}
use Rattle.std.proofs.Math.Seq.{take-suc}
use Rattle.g4_closure.specs.Marks.{AreMarks}

-- a number is the last of a list, or in what is before it
in_push : (xs : List ℕ) (x i : ℕ) → Contains (xs ++ x ∷ []) i ↔ (Contains xs i ⊎ (x ≡ i))
in_push xs x i = (
  Contains-push_cases xs x i,
  λ h. elim h [ inl before ↦ Contains-append_left xs (x ∷ []) i before | inr is ↦ subst (Contains (xs ++ x ∷ [])) is (Contains-push xs x) ],
)

-- no number of an empty list is marked
pub marked_none : (n : ℕ) (marks : List Bool) → length marks ≡ n → ((i : ℕ) → i < n → get_or marks i false ≡ false)
    → AreMarks (Contains []) n marks
marked_none n marks count none = record {
  count = count;
  told = λ i within. ((λ yes. absurd (true≢false (sym yes ∙ none i within))), λ has. absurd (omega (arith, has.1)));
}

-- one more number is marked
pub marked_more : (xs : List ℕ) (x n : ℕ) (marks : List Bool) → AreMarks (Contains xs) n marks → x < n
    → AreMarks (Contains (xs ++ x ∷ [])) n (set marks x true)
marked_more xs x n marks old within = record { count = length-set marks x true ∙ old.count; told = told }
  where
    here : x < length marks
    here = omega (arith, within, old.count)

    to : (i : ℕ) → i < n → Dec (i ≡ x) → IsTrue (get_or (set marks x true) i false) → Contains xs i ⊎ (x ≡ i)
    to i less (yes is) marked = inr (sym is)
    to i less (no other) marked = inl ((old.told i less).0 (sym (get_or-set_other marks x i true false other) ∙ marked))

    from : (i : ℕ) → i < n → Dec (i ≡ x) → Contains xs i ⊎ (x ≡ i) → IsTrue (get_or (set marks x true) i false)
    from i less (yes is) has = get_or-set_at marks x i true false is here
    from i less (no other) (inl has) = get_or-set_other marks x i true false other ∙ (old.told i less).1 has
    from i less (no other) (inr is) = absurd (other (sym is))

    told : (i : ℕ) → i < n → IsTrue (get_or (set marks x true) i false) ↔ Contains (xs ++ x ∷ []) i
    told i less = (
      λ marked. (in_push xs x i).1 (to i less (ℕ_discrete i x) marked),
      λ has. from i less (ℕ_discrete i x) ((in_push xs x i).0 has),
    )

-- a number past the marks needs none
pub marked_past : (xs : List ℕ) (x n : ℕ) (marks : List Bool) → AreMarks (Contains xs) n marks → n ≤ x
    → AreMarks (Contains (xs ++ x ∷ [])) n marks
marked_past xs x n marks old past = record {
  count = old.count;
  told = λ i less. (
    λ marked. (in_push xs x i).1 (inl ((old.told i less).0 marked)),
    λ has. elim ((in_push xs x i).0 has) [
      | inl before ↦ (old.told i less).1 before
      | inr is ↦ absurd (omega (arith, less, past, is))
    ],
  );
}

-- a front of a list, and one more
pub take_next : (xs : List ℕ) (k : ℕ) → k < length xs → take (k + 1) xs ≡ take k xs ++ get_or xs k 0 ∷ []
take_next xs k lt = let n : k + 1 ≡ suc k = omega arith in ap (λ (m : ℕ). take m xs) n ∙ take-suc xs k 0 lt
