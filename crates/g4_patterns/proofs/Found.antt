-- Places that are found one after another.
use Rattle.std.proofs.Common.{◌≡◌, ◌⊎◌, inl, inr, ◌<◌, ◌+◌, ℕ, zero, suc, Bool, true, false, List, [], ◌∷◌, ◌++◌, length, refl, sym, subst, arith}
use Rattle.std.specs.Prelude.{◌↔◌, cond, Contains, slice_index_or}
use Rattle.std.proofs.lemmas.List.Elements.{Contains-append_cases, Contains-append_left, Contains-append_right}
use Rattle.g4_tokens.specs.declared.token.Tokens.{Tokens}
use Rattle.g4_trees.specs.declared.tree.Item.{Item}
use Rattle.g4_patterns.specs.declared.token.PatternToken.{PatternToken}
use Rattle.g4_patterns.specs.declared.binding.Binding.{Binding}
use Rattle.g4_patterns.proofs.Subtrees.{Split, is_inside, split}
use Rattle.g4_patterns.specs.Matching.{AreMatches, IsAscending, MatchesAt}

-- the only number of a list of one
only_one : (n j : ℕ) → Contains (n ∷ []) j → n ≡ j
only_one n j c = by c.0 c.1 c.2
  where
    by : (i : ℕ) → i < length (n ∷ []) → slice_index_or (n ∷ []) i j ≡ j → n ≡ j
    by zero lt e = e
    by (suc i) lt e = absurd (omega arith)

one : (n : ℕ) → Contains (n ∷ []) n
one n = (0, omega arith, refl)

-- a number of a list is one of a longer list
in_longer : (k : ℕ) (ks : List ℕ) (j : ℕ) → Contains ks j → Contains (k ∷ ks) j
in_longer k ks j h = Contains-append_right (k ∷ []) ks j h

-- a greater number at the end
ascending_more : (ks : List ℕ) (n : ℕ) → IsAscending ks → ((j : ℕ) → Contains ks j → j < n) → IsAscending (ks ++ n ∷ [])
ascending_more [] n h below = (λ (j : ℕ) (c : Contains [] j). absurd (let lt = c.1 in omega arith), tt)
ascending_more (k ∷ ks) n h below = (
  λ (j : ℕ) (c : Contains (ks ++ n ∷ []) j). by j (Contains-append_cases ks (n ∷ []) j c),
  ascending_more ks n h.1 (λ (j : ℕ) (c : Contains ks j). below j (in_longer k ks j c)),
)
  where
    by : (j : ℕ) → Contains ks j ⊎ Contains (n ∷ []) j → k < j
    by j (inl c) = h.0 j c
    by j (inr c) = let lt : k < n = below k (Contains-append_left (k ∷ []) ks k (one k)) in let e : n ≡ j = only_one n j c in omega arith

module _ (ps : List Item) (pattern : List PatternToken) (xs : List Item) (tokens : Tokens) where
  -- it matches there
  abbrev pub Somehow : ℕ → Type 0
  Somehow k = (bs : List Binding) × MatchesAt ps pattern xs tokens k bs

  -- these are the places below this one at which it matches, in order
  pub record AreBelow (n : ℕ) (found : List ℕ) : Type 0 where
    pub ascending : IsAscending found
    pub exact : (k : ℕ) → Contains found k ↔ ((k < n) × Somehow k)

  -- those below the number of the items are all
  pub all_found : (found : List ℕ) → AreBelow (length xs) found → AreMatches ps pattern xs tokens found
  all_found found h = record {
    preorder = h.ascending;
    exact = λ (k : ℕ). (
      λ (c : Contains found k). ((h.exact k).0 c).1,
      λ (g : Somehow k). (h.exact k).1 (let m = g.1 in is_inside xs k m.1 m.3, g),
    );
  }

  -- no place yet
  pub none_yet : AreBelow 0 []
  none_yet = record {
    ascending = tt;
    exact = λ (k : ℕ). (λ (c : Contains [] k). absurd (let lt = c.1 in omega arith), λ h. absurd (let lt = h.0 in omega arith));
  }

  -- one place more
  pub one_found : (n : ℕ) (found : List ℕ) → AreBelow n found → Somehow n
      → AreBelow (n + 1) (found ++ n ∷ [])
  one_found n found h m = record {
    ascending = ascending_more found n h.ascending (λ (j : ℕ) (c : Contains found j). ((h.exact j).0 c).0);
    exact = λ (k : ℕ). (
      λ (c : Contains (found ++ n ∷ []) k). into k (Contains-append_cases found (n ∷ []) k c),
      λ (g : (k < n + 1) × Somehow k). out k g.1 (last k g.0),
    );
  }
    where
      into : (k : ℕ) → Contains found k ⊎ Contains (n ∷ []) k → (k < n + 1) × Somehow k
      into k (inl c) = let g = (h.exact k).0 c in (let lt = g.0 in omega arith, g.1)
      into k (inr c) = let e : n ≡ k = only_one n k c in (omega arith, subst Somehow e m)

      last : (k : ℕ) → k < n + 1 → (k < n) ⊎ (k ≡ n)
      last k lt = by_split (split k n)
        where
          by_split : Split k n → (k < n) ⊎ (k ≡ n)
          by_split (inl low) = inl low
          by_split (inr h) = let e = h.1 in inr (omega arith)

      out : (k : ℕ) → Somehow k → (k < n) ⊎ (k ≡ n) → Contains (found ++ n ∷ []) k
      out k g (inl lt) = Contains-append_left found (n ∷ []) k ((h.exact k).1 (lt, g))
      out k g (inr e) = subst (λ (j : ℕ). Contains (found ++ n ∷ []) j) (sym e) (Contains-append_right found (n ∷ []) n (one n))

  -- a place where it does not match
  pub none_found : (n : ℕ) (found : List ℕ) → AreBelow n found → (Somehow n → ⊥)
      → AreBelow (n + 1) found
  none_found n found h never = record {
    ascending = h.ascending;
    exact = λ (k : ℕ). (
      λ (c : Contains found k). (let lt = ((h.exact k).0 c).0 in omega arith, ((h.exact k).0 c).1),
      λ (g : (k < n + 1) × Somehow k). (h.exact k).1 (other k g.1 (last k g.0), g.1),
    );
  }
    where
      last : (k : ℕ) → k < n + 1 → (k < n) ⊎ (k ≡ n)
      last k lt = by_split (split k n)
        where
          by_split : Split k n → (k < n) ⊎ (k ≡ n)
          by_split (inl low) = inl low
          by_split (inr h) = let e = h.1 in inr (omega arith)

      other : (k : ℕ) → Somehow k → (k < n) ⊎ (k ≡ n) → k < n
      other k g (inl lt) = lt
      other k g (inr e) = absurd (never (subst Somehow e g))

  -- a place, by whether it matches there
  pub one_place : (n : ℕ) (found now : List ℕ) (b : Bool) → AreBelow n found
      → now ≡ cond b (found ++ n ∷ []) found → (b ≡ true → Somehow n) → (b ≡ false → Somehow n → ⊥)
      → AreBelow (n + 1) now
  one_place n found now true h is here never =
      subst (λ (ks : List ℕ). AreBelow (n + 1) ks) (sym is) (one_found n found h (here refl))
  one_place n found now false h is here never =
      subst (λ (ks : List ℕ). AreBelow (n + 1) ks) (sym is) (none_found n found h (never refl))
