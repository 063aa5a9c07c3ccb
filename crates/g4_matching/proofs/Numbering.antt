-- The map from nodes to the numbers of their lists.
use Rattle.std.proofs.Common.{◌≡◌, ℕ, ◌+◌, ◌-◌, ◌<◌, ◌^◌, ◌↔◌, inl, inr, List, [], ◌∷◌, ◌++◌, Bool, true, false, cond, Some, None, length, slice_get, length-append, refl, sym, ◌∙◌, ap, subst, arith}
use Rattle.std.proofs.lemmas.Map.Lookups.{exact_unsigned}
use Rattle.std.specs.Bool.{Decides}
use Rattle.std.specs.declared.cmp.Ordering.{Ordering}
use Rattle.std.specs.declared.cmp.Ordering.TheVariants.{Less, Equal, Greater}
use Rattle.std.specs.Ordering.{ordering_then, nat_cmp, is_eq}
use Rattle.std.specs.Cmp.{Equal-is, nat_cmp_is}
use Rattle.std.specs.BTreeMap.{BTreeMap, get, is_at}
use Rattle.g4_matching.specs.Returns.{node_cmp, IsStore}
use Rattle.g4_matching.proofs.Lookups.{same_some, at_left, at_last, at_cases}

-- two orders, one after the other, are equal where both are
both_equal : (o p : Ordering) → ordering_then o p ≡ Equal → (o ≡ Equal) × (p ≡ Equal)
both_equal Less p e = absurd (cc)
both_equal Equal p e = (refl, e)
both_equal Greater p e = absurd (cc)

-- and then they are
then_equal : (o p : Ordering) → o ≡ Equal → p ≡ Equal → ordering_then o p ≡ Equal
then_equal o p e f = subst (λ x. ordering_then x p ≡ Equal) (sym e) f

-- nodes compare equal where they are
pub node_decides : (p q : ℕ × ℕ) → Decides (is_eq (node_cmp p q)) (p ≡ q)
node_decides p q = (to, from)
  where
    make : ℕ → ℕ → ℕ × ℕ
    make a b = (a, b)

    to : is_eq (node_cmp p q) ≡ true → p ≡ q
    to e =
        let b = both_equal (nat_cmp p.0 q.0) (nat_cmp p.1 q.1) ((Equal-is (node_cmp p q)).0 e) in
        ap (λ (x : ℕ). make x p.1) (exact_unsigned p.0 q.0 b.0) ∙ ap (make q.0) (exact_unsigned p.1 q.1 b.1)

    same : (n : ℕ) → nat_cmp n n ≡ Equal
    same n = sym (nat_cmp_is n n Equal refl)

    from : p ≡ q → is_eq (node_cmp p q) ≡ true
    from e = subst (λ (x : ℕ × ℕ). is_eq (node_cmp p x) ≡ true) e
        ((Equal-is (node_cmp p p)).1 (then_equal (nat_cmp p.0 p.0) (nat_cmp p.1 p.1) (same p.0) (same p.1)))

-- one node more, in the list and in its map
numbered_more : (nodes : List (ℕ × ℕ)) (m m' : BTreeMap (ℕ × ℕ) ℕ) (p : ℕ × ℕ) (n : ℕ) → n ≡ length nodes + 1 → IsStore nodes m
    → get node_cmp m p ≡ None
    → ((q : ℕ × ℕ) → get node_cmp m' q ≡ cond (is_at (node_cmp p) q) (Some n) (get node_cmp m q))
    → (q : ℕ × ℕ) (i : ℕ) → (get node_cmp m' q ≡ Some i) ↔ ((k : ℕ) × (i ≡ k + 1) × (slice_get (nodes ++ p ∷ []) k ≡ Some q))
numbered_more nodes m m' p n is_n store absent updates q i = by (is_eq (node_cmp p q)) refl
  where
    by : (t : Bool) → is_eq (node_cmp p q) ≡ t → (get node_cmp m' q ≡ Some i)
        ↔ ((k : ℕ) × (i ≡ k + 1) × (slice_get (nodes ++ p ∷ []) k ≡ Some q))
    by true e =
        let same : p ≡ q = (node_decides p q).0 e in
        let found : get node_cmp m' q ≡ Some n = updates q ∙ ap (λ (t : Bool). cond t (Some n) (get node_cmp m q)) e in (
          (λ h. (length nodes, same_some i n (sym h ∙ found) ∙ is_n, at_last nodes p ∙ ap Some same)),
          (λ h. elim (at_cases nodes p q h.0 h.2) [
            | inl old ↦ (let some : get node_cmp m p ≡ Some i = (store.numbered p i).1 (h.0, h.1, old ∙ ap Some (sym same)) in absurd (cc))
            | inr new ↦ found ∙ ap Some (is_n ∙ ap (λ (k : ℕ). k + 1) (sym new.0) ∙ sym h.1)
          ]),
        )
    by false e =
        let kept : get node_cmp m' q ≡ get node_cmp m q = updates q ∙ ap (λ (t : Bool). cond t (Some n) (get node_cmp m q)) e in (
          (λ h. let old = (store.numbered q i).0 (sym kept ∙ h) in (old.0, old.1, at_left nodes (p ∷ []) old.0 q old.2)),
          (λ h. elim (at_cases nodes p q h.0 h.2) [
            | inl old ↦ kept ∙ (store.numbered q i).1 (h.0, h.1, old)
            | inr new ↦ (let yes = (node_decides p q).1 new.1 in absurd (cc))
          ]),
        )

-- a store with one node more
pub one_node_more : (nodes new : List (ℕ × ℕ)) (m m' : BTreeMap (ℕ × ℕ) ℕ) (p : ℕ × ℕ) (n : ℕ) → n ≡ length nodes + 1
    → p.1 < length nodes + 1 → n < 2 ^ 32 - 1 → IsStore nodes m → get node_cmp m p ≡ None
    → ((q : ℕ × ℕ) → get node_cmp m' q ≡ cond (is_at (node_cmp p) q) (Some n) (get node_cmp m q)) → new ≡ nodes ++ p ∷ [] → IsStore new m'
one_node_more nodes new m m' p n is_n low few store absent updates grown = subst (λ (l : List (ℕ × ℕ)). IsStore l m') (sym grown) (record {
  numbered = numbered_more nodes m m' p n is_n store absent updates;
  below = λ k q is. elim (at_cases nodes p q k is) [
    | inl old ↦ store.below k q old
    | inr at ↦ (let e = ap (λ (x : ℕ × ℕ). x.1) at.1 in let l = at.0 in omega arith)
  ];
  few = (let l = length-append nodes (p ∷ []) in omega arith);
})

-- a store whose map is unchanged
pub unchanged : (nodes new : List (ℕ × ℕ)) (m m' : BTreeMap (ℕ × ℕ) ℕ) → new ≡ nodes
    → ((q : ℕ × ℕ) → get node_cmp m' q ≡ get node_cmp m q) → IsStore nodes m → IsStore new m'
unchanged nodes new m m' same kept store = subst (λ (l : List (ℕ × ℕ)). IsStore l m') (sym same) (record {
  numbered = λ q n. ((λ h. (store.numbered q n).0 (sym (kept q) ∙ h)), λ h. kept q ∙ (store.numbered q n).1 h);
  below = store.below;
  few = store.few;
})
