-- In a sorted list of pairs, a pair that appears twice is followed by itself.
use Rattle.std.proofs.Common.{◌≡◌, ◌≢◌, ◌<◌, ◌≤◌, ◌+◌, ◌-◌, ℕ, ◌↔◌, ◌⊎◌, inl, inr, Bool, true, false, true≢false, IsTrue, ◌&&◌, List, length, get_or, swap, refl, sym, ◌∙◌, ap, subst, arith}
use Rattle.std.proofs.lemmas.List.{get_or_default}
use Rattle.std.proofs.lemmas.List.Edits.{Swapped, length-swap, swapped_from_swap}
use Rattle.std.proofs.lemmas.List.Sorted.{IsPermutation-keeps, IsPermutation-sym, ranks_by, sorted_far}
use Rattle.std.proofs.lemmas.Map.Lookups.{exact_pairs, exact_unsigned}
use Rattle.std.proofs.Math.Dec.{eqb}
use Rattle.std.specs.List.Sorted.{IsPermutation, IsSorted}
use Rattle.std.specs.Ordering.{is_lt, nat_cmp, ordering_reverse}
use Rattle.std.specs.declared.cmp.Ordering.{Ordering}
use Rattle.std.specs.declared.cmp.Ordering.TheVariants.{Less, Equal, Greater}
use Rattle.g4_stacks.specs.Table.{pair_cmp}
use Rattle.g4_stacks.proofs.Shapes.{pairs_Decides}
use Rattle.g4_configs.specs.Verdicts.{HasEqualNeighbours, HasTwice}
use Rattle.g4_configs.proofs.Keys.{pair_total}

-- the test of two pairs
abbrev pub same_pairs : ℕ × ℕ → ℕ × ℕ → Bool
same_pairs a b = eqb a.0 b.0 && eqb a.1 b.1

pairs_equal : (a b : ℕ × ℕ) → true ≡ same_pairs a b → a ≡ b
pairs_equal a b same = (pairs_Decides a b).0 (sym same)

pairs_apart : (a b : ℕ × ℕ) → false ≡ same_pairs a b → a ≢ b
pairs_apart a b apart same = true≢false (sym ((pairs_Decides a b).1 same) ∙ sym apart)

module _ (xs : List (ℕ × ℕ)) where
  -- the pairs at an index and before it
  pub found_equal : (i : ℕ) → 1 ≤ i → i < length xs → true ≡ same_pairs (get_or xs (i - 1) (0, 0)) (get_or xs i (0, 0))
      → HasEqualNeighbours xs
  found_equal i from within same = (
    i - 1,
    omega arith,
    λ d. get_or_default xs (i - 1) d (0, 0) (omega arith)
        ∙ pairs_equal (get_or xs (i - 1) (0, 0)) (get_or xs i (0, 0)) same ∙ here d,
  )
    where
      here : (d : ℕ × ℕ) → get_or xs i (0, 0) ≡ get_or xs (i - 1 + 1) d
      here d = let at : i ≡ i - 1 + 1 = omega arith in get_or_default xs i (0, 0) d within ∙ ap (λ (k : ℕ). get_or xs k d) at

  pub one_more_apart : (i : ℕ) → 1 ≤ i → ((k : ℕ) → k + 1 < i → ((d : ℕ × ℕ) → get_or xs k d ≡ get_or xs (k + 1) d) → ⊥)
      → false ≡ same_pairs (get_or xs (i - 1) (0, 0)) (get_or xs i (0, 0))
      → (k : ℕ) → k + 1 < i + 1 → ((d : ℕ × ℕ) → get_or xs k d ≡ get_or xs (k + 1) d) → ⊥
  one_more_apart i from before apart k lt same = elim (split k lt) [
    | inl less ↦ before k less same
    | inr last ↦ pairs_apart (get_or xs (i - 1) (0, 0)) (get_or xs i (0, 0)) apart
        (subst (λ (h : ℕ). get_or xs (i - 1) (0, 0) ≡ get_or xs h (0, 0)) last (moved last))
  ]
    where
      split : (k : ℕ) → k + 1 < i + 1 → (k + 1 < i) ⊎ (k + 1 ≡ i)
      split k lt = grind arith

      moved : k + 1 ≡ i → get_or xs (i - 1) (0, 0) ≡ get_or xs (k + 1) (0, 0)
      moved last = let at : i - 1 ≡ k = omega arith in ap (λ (h : ℕ). get_or xs h (0, 0)) at ∙ same (0, 0)

-- two places, in either order, have one item
abbrev HasTwo : {X : Type 0} → List X → Type 0
HasTwo {X} xs = (i j : ℕ) × (i ≢ j) × (i < length xs) × (j < length xs) × ((d : X) → get_or xs i d ≡ get_or xs j d)

-- the place k of a list is the place k' after an exchange of a and b
abbrev IsMoved : ℕ → ℕ → ℕ → ℕ → Type 0
IsMoved a b k k' = ((k ≡ a) × (k' ≡ b)) ⊎ (((k ≡ b) × (k' ≡ a)) ⊎ ((k ≢ a) × (k ≢ b) × (k' ≡ k)))

moved_apart : (a b i i' j j' : ℕ) → IsMoved a b i i' → IsMoved a b j j' → i ≢ j → i' ≢ j'
moved_apart a b i i' j j' m n ne = grind arith

moved_within : (a b k k' n : ℕ) → a < n → b < n → k < n → IsMoved a b k k' → k' < n
moved_within a b k k' n a_in b_in in' m = grind arith

module _ {X : Type 0} where
  swap_keeps : (l : List X) (a b : ℕ) → a < length l → b < length l → HasTwo l → HasTwo (swap l a b)
  swap_keeps l a b a_in b_in (i, j, ne, i_in, j_in, same) =
      let p = place i in
      let q = place j in
      let long = length-swap l a b in
      let p_in : p.0 < length l = moved_within a b i p.0 (length l) a_in b_in i_in p.1 in
      let q_in : q.0 < length l = moved_within a b j q.0 (length l) a_in b_in j_in q.1 in
      (p.0, q.0, moved_apart a b i p.0 j q.0 p.1 q.1 ne, omega (arith, long), omega (arith, long), (λ d. p.2 d ∙ same d ∙ sym (q.2 d)))
    where
      at : (d : X) → Swapped (λ k. get_or l k d) (λ k. get_or (swap l a b) k d) a b
      at d = swapped_from_swap l (swap l a b) a b d a_in b_in refl

      which : (k h : ℕ) → (k ≡ h) ⊎ (k ≢ h)
      which k h = grind arith

      by : (k : ℕ) → (k ≡ a) ⊎ (k ≢ a) → (k ≡ b) ⊎ (k ≢ b)
          → (k' : ℕ) × IsMoved a b k k' × ((d : X) → get_or (swap l a b) k' d ≡ get_or l k d)
      by k (inl e) f = (b, inl (e, refl), (λ d. (at d).1 ∙ ap (λ (h : ℕ). get_or l h d) (sym e)))
      by k (inr ne) (inl f) = (a, inr (inl (f, refl)), (λ d. (at d).0 ∙ ap (λ (h : ℕ). get_or l h d) (sym f)))
      by k (inr ne) (inr nf) = (k, inr (inr (ne, nf, refl)), (λ d. (at d).2 k ne nf))

      place : (k : ℕ) → (k' : ℕ) × IsMoved a b k k' × ((d : X) → get_or (swap l a b) k' d ≡ get_or l k d)
      place k = by k (which k a) (which k b)

  two_moved : (xs ys : List X) → IsPermutation xs ys → HasTwo xs → HasTwo ys
  two_moved xs ys moved two = IsPermutation-keeps xs HasTwo two swap_keeps ys moved

  two_twice : (xs : List X) → HasTwo xs → HasTwice xs
  two_twice xs (i, j, ne, i_in, j_in, same) = elim (order i j) [
    | inl lt ↦ (i, j, lt, j_in, same)
    | inr (inl e) ↦ absurd (ne e)
    | inr (inr lt) ↦ (j, i, lt, i_in, (λ d. sym (same d)))
  ]
    where
      order : (i j : ℕ) → (i < j) ⊎ ((i ≡ j) ⊎ (j < i))
      order i j = grind arith

  twice_two : (xs : List X) → HasTwice xs → HasTwo xs
  twice_two xs (i, j, lt, within, same) = (i, j, (λ e. omega arith), omega arith, within, same)

-- pairs of which neither is less than the other are one
between : (a b : ℕ × ℕ) → is_lt (pair_cmp a b) ≡ false → is_lt (pair_cmp b a) ≡ false → a ≡ b
between a b h k = by (pair_cmp a b) refl
  where
    by : (o : Ordering) → pair_cmp a b ≡ o → a ≡ b
    by Less e = absurd (true≢false (sym (ap is_lt e) ∙ h))
    by Equal e = exact_pairs nat_cmp nat_cmp exact_unsigned exact_unsigned a b e
    by Greater e = let f : pair_cmp b a ≡ Less = pair_total.antisymm b a ∙ ap ordering_reverse e in
        absurd (true≢false (sym (ap is_lt f) ∙ k))

module _ (ys : List (ℕ × ℕ)) (sorted : IsSorted pair_cmp ys) where
  twice_neighbours : HasTwice ys → HasEqualNeighbours ys
  twice_neighbours (i, j, lt, within, same) = (
    i,
    omega arith,
    λ d. between (get_or ys i d) (get_or ys (i + 1) d) (upper d) (sorted i d (omega arith) (omega arith)),
  )
    where
      far : (d : ℕ × ℕ) → is_lt (pair_cmp (get_or ys j d) (get_or ys (i + 1) d)) ≡ false
      far d = sorted_far (λ x y. is_lt (pair_cmp x y)) (ranks_by pair_total (λ (q : ℕ × ℕ). q)) ys sorted (i + 1) j d (omega arith) within

      upper : (d : ℕ × ℕ) → is_lt (pair_cmp (get_or ys i d) (get_or ys (i + 1) d)) ≡ false
      upper d = subst (λ (q : ℕ × ℕ). is_lt (pair_cmp q (get_or ys (i + 1) d)) ≡ false) (sym (same d)) (far d)

  neighbours_twice : HasEqualNeighbours ys → HasTwice ys
  neighbours_twice (i, within, same) = (i, i + 1, omega arith, within, same)

  -- the sorted list has equal neighbours where the list has a pair twice
  sorted_exact : (xs : List (ℕ × ℕ)) → IsPermutation xs ys → HasEqualNeighbours ys ↔ HasTwice xs
  sorted_exact xs moved = (
    (λ h. two_twice xs (two_moved ys xs (IsPermutation-sym xs ys moved) (twice_two ys (neighbours_twice h)))),
    (λ h. twice_neighbours (two_twice ys (two_moved xs ys moved (twice_two xs h)))),
  )

-- what is found among the neighbours of the sorted list
pub twice_by : (xs ys zs : List (ℕ × ℕ)) (r : Bool) → IsPermutation xs ys → IsSorted pair_cmp ys → zs ≡ ys
    → IsTrue r ↔ HasEqualNeighbours zs → IsTrue r ↔ HasTwice xs
twice_by xs ys zs r moved sorted same answer =
    let exact = sorted_exact ys sorted xs moved in
    let told = subst (λ (list : List (ℕ × ℕ)). IsTrue r ↔ HasEqualNeighbours list) same answer in
    ((λ t. exact.0 (told.0 t)), (λ h. told.1 (exact.1 h)))
