-- Pairs by number, as pairs are added.
use Rattle.std.proofs.Common.{◌≡◌, ℕ, ◌↔◌, inl, inr, List, [], ◌∷◌, ◌++◌, Bool, true, false, cond, Some, None, length, slice_get, refl, sym, ◌∙◌, ap}
use Rattle.std.specs.BTreeMap.{BTreeMap, get, is_at}
use Rattle.std.specs.Ordering.{is_eq}
use Rattle.g4_matching.specs.Returns.{node_cmp}
use Rattle.g4_matching.proofs.Lookups.{same_some, at_left, at_last, at_cases}
use Rattle.g4_matching.proofs.Numbering.{node_decides}

-- the map has the place of each pair
abbrev pub IsOf : List (ℕ × ℕ) → BTreeMap (ℕ × ℕ) ℕ → Type 0
IsOf pairs m = (p : ℕ × ℕ) (n : ℕ) → (get node_cmp m p ≡ Some n) ↔ (slice_get pairs n ≡ Some p)

-- one pair more, in the list and in its map
pub one_pair_more : (pairs new : List (ℕ × ℕ)) (m m' : BTreeMap (ℕ × ℕ) ℕ) (p : ℕ × ℕ) (n : ℕ) → n ≡ length pairs → IsOf pairs m
    → get node_cmp m p ≡ None → ((q : ℕ × ℕ) → get node_cmp m' q ≡ cond (is_at (node_cmp p) q) (Some n) (get node_cmp m q))
    → new ≡ pairs ++ p ∷ [] → IsOf new m'
one_pair_more pairs new m m' p n is_n store absent updates grown q i = by (is_eq (node_cmp p q)) refl
  where
    there : (j : ℕ) (r : ℕ × ℕ) → slice_get (pairs ++ p ∷ []) j ≡ Some r → slice_get new j ≡ Some r
    there j r h = ap (λ (l : List (ℕ × ℕ)). slice_get l j) grown ∙ h

    back : (j : ℕ) (r : ℕ × ℕ) → slice_get new j ≡ Some r → slice_get (pairs ++ p ∷ []) j ≡ Some r
    back j r h = ap (λ (l : List (ℕ × ℕ)). slice_get l j) (sym grown) ∙ h

    by : (t : Bool) → is_eq (node_cmp p q) ≡ t → (get node_cmp m' q ≡ Some i) ↔ (slice_get new i ≡ Some q)
    by true e =
        let same : p ≡ q = (node_decides p q).0 e in
        let found : get node_cmp m' q ≡ Some n = updates q ∙ ap (λ (t : Bool). cond t (Some n) (get node_cmp m q)) e in (
          (λ h. let at : i ≡ length pairs = same_some i n (sym h ∙ found) ∙ is_n in
              there i q (ap (slice_get (pairs ++ p ∷ [])) at ∙ at_last pairs p ∙ ap Some same)),
          (λ h. elim (at_cases pairs p q i (back i q h)) [
            | inl old ↦ (let some : get node_cmp m p ≡ Some i = (store p i).1 (old ∙ ap Some (sym same)) in absurd (cc))
            | inr new_one ↦ found ∙ ap Some (is_n ∙ sym new_one.0)
          ]),
        )
    by false e =
        let kept : get node_cmp m' q ≡ get node_cmp m q = updates q ∙ ap (λ (t : Bool). cond t (Some n) (get node_cmp m q)) e in (
          (λ h. there i q (at_left pairs (p ∷ []) i q ((store q i).0 (sym kept ∙ h)))),
          (λ h. elim (at_cases pairs p q i (back i q h)) [
            | inl old ↦ kept ∙ (store q i).1 old
            | inr new_one ↦ (let yes = (node_decides p q).1 new_one.1 in absurd (cc))
          ]),
        )

-- a pair has one number
pub one_number : (pairs : List (ℕ × ℕ)) (m : BTreeMap (ℕ × ℕ) ℕ) (p : ℕ × ℕ) (j k : ℕ) → IsOf pairs m → slice_get pairs j ≡ Some p
    → slice_get pairs k ≡ Some p → j ≡ k
one_number pairs m p j k store at_j at_k = same_some j k (sym ((store p j).1 at_j) ∙ (store p k).1 at_k)
