-- Ordered maps from contents to their numbers.
use Rattle.std.proofs.Common.{◌≡◌, ◌<◌, ◌^◌, ℕ, ◌↔◌, inl, inr, List, [], ◌∷◌, ◌++◌, Bool, true, false, Some, None, cond, length, slice_get, refl, sym, ◌∙◌, ap, subst, arith}
use Rattle.std.proofs.lemmas.Bool.Decides.{nat_tests}
use Rattle.std.proofs.lemmas.Option.{slice_get_within}
use Rattle.std.specs.Bool.{Decides}
use Rattle.std.specs.declared.cmp.Ordering.{Ordering}
use Rattle.std.specs.declared.cmp.Ordering.TheVariants.{Less, Equal, Greater}
use Rattle.std.specs.Ordering.{ordering_then, bool_cmp, nat_cmp, is_eq}
use Rattle.std.specs.Cmp.{Equal-is, nat_cmp_is}
use Rattle.std.specs.Cmp.Lexicographic.{slice_cmp}
use Rattle.std.specs.BTreeMap.{BTreeMap, get, is_at}
use Rattle.std.proofs.lemmas.Map.Lookups.{CmpEqualImpliesEq, exact_unsigned, exact_pairs}
use Rattle.g4_stacks.specs.Graph.{Content}
use Rattle.g4_stacks.specs.Table.{Key, content_by, one_of, pair_cmp, key_cmp, Numbers, number_at, pair_eq, IsOne, HasOnes, IsIndexed, IsTable, IsAbsent, IsAdded}
use Rattle.g4_stacks.proofs.Canonicity.{content_equal}
use Rattle.g4_stacks.proofs.Growing.{slice_get_left, slice_get_new, split_new}

both_Equal : (o p : Ordering) → ordering_then o p ≡ Equal → (o ≡ Equal) × (p ≡ Equal)
both_Equal Less p e = absurd (cc)
both_Equal Equal p e = (refl, e)
both_Equal Greater p e = absurd (cc)

then_Equal : (o p : Ordering) → o ≡ Equal → p ≡ Equal → ordering_then o p ≡ Equal
then_Equal o p e f = subst (λ x. ordering_then x p ≡ Equal) (sym e) f

exact_bool : CmpEqualImpliesEq bool_cmp
exact_bool true true e = refl
exact_bool true false e = absurd (cc)
exact_bool false true e = absurd (cc)
exact_bool false false e = refl

exact_tops : CmpEqualImpliesEq (slice_cmp pair_cmp)
exact_tops [] [] e = refl
exact_tops [] (y ∷ ys) e = absurd (cc)
exact_tops (x ∷ xs) [] e = absurd (cc)
exact_tops (x ∷ xs) (y ∷ ys) e =
    let b = both_Equal (pair_cmp x y) (slice_cmp pair_cmp xs ys) e in
    let h : x ≡ y = exact_pairs nat_cmp nat_cmp exact_unsigned exact_unsigned x y b.0 in
    let r = exact_tops xs ys b.1 in
    cc

same_bool : (x : Bool) → bool_cmp x x ≡ Equal
same_bool true = refl
same_bool false = refl

same_nat : (n : ℕ) → nat_cmp n n ≡ Equal
same_nat n = sym (nat_cmp_is n n Equal refl)

same_tops : (xs : List (ℕ × ℕ)) → slice_cmp pair_cmp xs xs ≡ Equal
same_tops [] = refl
same_tops (x ∷ xs) = then_Equal (pair_cmp x x) _ (then_Equal (nat_cmp x.0 x.0) _ (same_nat x.0) (same_nat x.1)) (same_tops xs)

-- keys compare equal where the contents are
pub key_Decides : (x y : Key) → Decides (is_eq (key_cmp x y)) (content_by x ≡ content_by y)
key_Decides x y = (to, from)
  where
    to : is_eq (key_cmp x y) ≡ true → content_by x ≡ content_by y
    to e =
        let o = both_Equal (ordering_then (bool_cmp x.0 y.0) (bool_cmp x.1 y.1)) _ ((Equal-is (key_cmp x y)).0 e) in
        let p = both_Equal (bool_cmp x.0 y.0) _ o.0 in
        content_equal (content_by x) (content_by y) (exact_bool x.0 y.0 p.0) (exact_bool x.1 y.1 p.1) (exact_tops x.2.items y.2.items o.1)

    from : content_by x ≡ content_by y → is_eq (key_cmp x y) ≡ true
    from e = (Equal-is (key_cmp x y)).1 (then_Equal _ _
        (then_Equal _ _
        (subst (λ (b : Bool). bool_cmp x.0 b ≡ Equal) (ap (λ (c : Content). c.end) e) (same_bool x.0))
        (subst (λ (b : Bool). bool_cmp x.1 b ≡ Equal) (ap (λ (c : Content). c.wild) e) (same_bool x.1)))
        (subst (λ (es : List (ℕ × ℕ)). slice_cmp pair_cmp x.2.items es ≡ Equal) (ap (λ (c : Content). c.tops) e) (same_tops x.2.items)))

-- pairs are told apart
pub pair_Decides : (a b x y : ℕ) → Decides (pair_eq (a, b) (x, y)) ((a ≡ x) × (b ≡ y))
pair_Decides a b x y = (λ e. grind (arith, nat_tests), λ e. grind (arith, nat_tests))

abbrev first_of : List (ℕ × ℕ) → ℕ × ℕ
first_of [] = (0, 0)
first_of (e ∷ es) = e

one_parts : (a b x y : ℕ) → one_of a b ≡ one_of x y → (a ≡ x) × (b ≡ y)
one_parts a b x y e = (ap (λ (c : Content). (first_of c.tops).0) e, ap (λ (c : Content). (first_of c.tops).1) e)

one_equal : (a b x y : ℕ) → (a ≡ x) × (b ≡ y) → one_of a b ≡ one_of x y
one_equal a b x y e = ap (λ (n : ℕ). one_of n b) e.0 ∙ ap (one_of x) e.1

-- one content more, in the list and in its map
pub indexed_more : (g : List Content) (m m' : BTreeMap Key ℕ) (k : Key) (n : ℕ) → n ≡ length g → IsIndexed g m → IsAbsent g (content_by k)
    → ((q : Key) → get key_cmp m' q ≡ cond (is_at (key_cmp k) q) (Some n) (get key_cmp m q)) → IsIndexed (g ++ content_by k ∷ []) m'
indexed_more g m m' k n is_n indexed absent updates q i several = by (is_eq (key_cmp k q)) refl
  where
    by : (b : Bool) → is_eq (key_cmp k q) ≡ b → (get key_cmp m' q ≡ Some i) ↔ (slice_get (g ++ content_by k ∷ []) i ≡ Some (content_by q))
    by true e =
        let same = (key_Decides k q).0 e in
        let found : get key_cmp m' q ≡ Some n = updates q ∙ ap (λ (b : Bool). cond b (Some n) (get key_cmp m q)) e in (
          (λ h. let at : i ≡ n = cc in subst (λ (j : ℕ). slice_get (g ++ content_by k ∷ []) j ≡ Some (content_by q))
              (sym is_n ∙ sym at) (slice_get_new g (content_by k) ∙ ap Some same)),
          (λ h. elim (split_new g (content_by k) (content_by q) i h) [
            | inl old ↦ absurd (absent i (old ∙ ap Some (sym same)))
            | inr new ↦ found ∙ ap Some (is_n ∙ sym new.0)
          ]),
        )
    by false e =
        let kept : get key_cmp m' q ≡ get key_cmp m q = updates q ∙ ap (λ (b : Bool). cond b (Some n) (get key_cmp m q)) e in (
          (λ h. let old = (indexed q i several).0 (sym kept ∙ h) in
              slice_get_left g (content_by k ∷ []) i (slice_get_within g i _ old) ∙ old),
          (λ h. elim (split_new g (content_by k) (content_by q) i h) [
            | inl old ↦ kept ∙ (indexed q i several).1 old
            | inr new ↦ (let yes = (key_Decides k q).1 new.1 in absurd (cc))
          ]),
        )

pub ones_more : (g : List Content) (m m' : Numbers) (a b n : ℕ) → n ≡ length g → HasOnes g m → IsAbsent g (one_of a b)
    → ((q : ℕ × ℕ) → number_at m' q ≡ cond (pair_eq (a, b) q) (Some n) (number_at m q)) → HasOnes (g ++ one_of a b ∷ []) m'
ones_more g m m' a b n is_n ones absent updates x y i = by (pair_eq (a, b) (x, y)) refl
  where
    by : (t : Bool) → pair_eq (a, b) (x, y) ≡ t
        → (number_at m' (x, y) ≡ Some i) ↔ (slice_get (g ++ one_of a b ∷ []) i ≡ Some (one_of x y))
    by true e =
        let same = one_equal a b x y ((pair_Decides a b x y).0 e) in
        let found : number_at m' (x, y) ≡ Some n = updates (x, y) ∙ ap (λ (t : Bool). cond t (Some n) (number_at m (x, y))) e in (
          (λ h. let at : i ≡ n = cc in subst (λ (j : ℕ). slice_get (g ++ one_of a b ∷ []) j ≡ Some (one_of x y)) (sym is_n ∙ sym at)
              (slice_get_new g (one_of a b) ∙ ap Some same)),
          (λ h. elim (split_new g (one_of a b) (one_of x y) i h) [
            | inl old ↦ absurd (absent i (old ∙ ap Some (sym same)))
            | inr new ↦ found ∙ ap Some (is_n ∙ sym new.0)
          ]),
        )
    by false e =
        let kept : number_at m' (x, y) ≡ number_at m (x, y) =
        updates (x, y) ∙ ap (λ (t : Bool). cond t (Some n) (number_at m (x, y))) e in (
          (λ h. let old = (ones x y i).0 (sym kept ∙ h) in slice_get_left g (one_of a b ∷ []) i (slice_get_within g i _ old) ∙ old),
          (λ h. elim (split_new g (one_of a b) (one_of x y) i h) [
            | inl old ↦ kept ∙ (ones x y i).1 old
            | inr new ↦ (let yes = (pair_Decides a b x y).1 (one_parts a b x y new.1) in absurd (cc))
          ]),
        )

-- the other map stays right
pub indexed_still : (g : List Content) (m : BTreeMap Key ℕ) (a b : ℕ) → IsIndexed g m → IsIndexed (g ++ one_of a b ∷ []) m
indexed_still g m a b indexed q i several = (
  (λ h. let old = (indexed q i several).0 h in slice_get_left g (one_of a b ∷ []) i (slice_get_within g i _ old) ∙ old),
  (λ h. elim (split_new g (one_of a b) (content_by q) i h) [
    | inl old ↦ (indexed q i several).1 old
    | inr new ↦ absurd (several (a, b, sym new.1))
  ]),
)

pub ones_still : (g : List Content) (m : Numbers) (c : Content) → (IsOne c → ⊥) → HasOnes g m → HasOnes (g ++ c ∷ []) m
ones_still g m c several ones x y i = (
  (λ h. let old = (ones x y i).0 h in slice_get_left g (c ∷ []) i (slice_get_within g i _ old) ∙ old),
  (λ h. elim (split_new g c (one_of x y) i h) [
    | inl old ↦ (ones x y i).1 old
    | inr new ↦ absurd (several (x, y, new.1))
  ]),
)

-- a content that its map has not is absent
pub absent_by : (g : List Content) (m : BTreeMap Key ℕ) (k : Key) → (IsOne (content_by k) → ⊥) → IsIndexed g m
    → get key_cmp m k ≡ None → IsAbsent g (content_by k)
absent_by g m k several indexed none n is = let some = (indexed k n several).1 is in absurd (cc)

pub absent_one : (g : List Content) (m : Numbers) (a b : ℕ) → HasOnes g m → number_at m (a, b) ≡ None
    → IsAbsent g (one_of a b)
absent_one g m a b ones none n is = let some = (ones a b n).1 is in absurd (cc)

-- a table with one content more
pub other_more : (g new : List Content) (ones : Numbers) (m m' : BTreeMap Key ℕ) (k : Key) (n : ℕ) → IsTable g ones m
    → n ≡ length g → (IsOne (content_by k) → ⊥) → get key_cmp m k ≡ None
    → ((q : Key) → get key_cmp m' q ≡ cond (is_at (key_cmp k) q) (Some n) (get key_cmp m q)) → new ≡ g ++ content_by k ∷ []
    → length new < 2 ^ 32 → IsTable new ones m'
other_more g new ones m m' k n table is_n several none updates grown small = record {
  has_ones = subst (λ (x : List Content). HasOnes x ones) (sym grown) (ones_still g ones (content_by k) several table.has_ones);
  indexed = subst (λ (x : List Content). IsIndexed x m') (sym grown)
      (indexed_more g m m' k n is_n table.indexed (absent_by g m k several table.indexed none) updates);
  small = small;
}

pub one_more : (g new : List Content) (ones ones' : Numbers) (m : BTreeMap Key ℕ) (a b n : ℕ) → IsTable g ones m
    → n ≡ length g → number_at ones (a, b) ≡ None
    → ((q : ℕ × ℕ) → number_at ones' q ≡ cond (pair_eq (a, b) q) (Some n) (number_at ones q))
    → new ≡ g ++ one_of a b ∷ [] → length new < 2 ^ 32 → IsTable new ones' m
one_more g new ones ones' m a b n table is_n none updates grown small = record {
  has_ones = subst (λ (x : List Content). HasOnes x ones') (sym grown)
      (ones_more g ones ones' a b n is_n table.has_ones (absent_one g ones a b table.has_ones none) updates);
  indexed = subst (λ (x : List Content). IsIndexed x m) (sym grown) (indexed_still g m a b table.indexed);
  small = small;
}

pub held_at : (g now : List Content) (c d : Content) (n : ℕ) → g ≡ now → c ≡ d → slice_get g n ≡ Some c → slice_get now n ≡ Some d
held_at g now c d n e f is = ap (λ (x : List Content). slice_get x n) (sym e) ∙ (is ∙ ap Some f)

pub added_to : (g now new : List Content) (c d : Content) → g ≡ now → c ≡ d → IsAbsent g c → new ≡ g ++ c ∷ [] → IsAdded now d new
added_to g now new c d e f absent grown =
    subst (λ (x : List Content). IsAdded x d new) e (subst (λ (y : Content). IsAdded g y new) f (inr (absent, grown)))
