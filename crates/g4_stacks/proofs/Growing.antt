-- A canonical graph that takes up one content more.
use Rattle.std.proofs.Common.{◌≡◌, ℕ, zero, suc, ◌<◌, ◌↔◌, ◌⊎◌, inl, inr, List, [], ◌∷◌, ◌++◌, Bool, Some, length, slice_get, refl, sym, ◌∙◌, ap, subst, arith, length-append}
use Rattle.std.proofs.lemmas.Option.{slice_get_within}
use Rattle.g4_net.specs.Configurations.{Stack}
use Rattle.g4_stacks.specs.Graph.{Content, In, IsMarked, HasOf, Has, Keeps}
use Rattle.g4_stacks.specs.Table.{IsAdded}
use Rattle.g4_stacks.specs.Canonical.{IsPlain, IsCanonical, Grows}
use Rattle.g4_stacks.proofs.Ordered.{lead_below}
use Rattle.g4_stacks.proofs.Canonicity.{content_of, has_pushed}

-- the old nodes hold what they held
pub slice_get_left : (g more : List Content) (n : ℕ) → n < length g → slice_get (g ++ more) n ≡ slice_get g n
slice_get_left [] more n lt = absurd (omega arith)
slice_get_left (c ∷ g) more zero lt = refl
slice_get_left (c ∷ g) more (suc n) lt = slice_get_left g more n (omega arith)

-- the new one holds the new content
pub slice_get_new : (g : List Content) (c : Content) → slice_get (g ++ c ∷ []) (length g) ≡ Some c
slice_get_new [] c = refl
slice_get_new (d ∷ g) c = slice_get_new g c

-- with one content more, a number is an old one or the last
pub split_new : (g : List Content) (c d : Content) (n : ℕ) → slice_get (g ++ c ∷ []) n ≡ Some d
    → (slice_get g n ≡ Some d) ⊎ ((n ≡ length g) × (c ≡ d))
split_new [] c d zero is = inr (refl, cc)
split_new [] c d (suc n) is = absurd (cc)
split_new (x ∷ g) c d zero is = inl is
split_new (x ∷ g) c d (suc n) is = elim (split_new g c d n is) [ inl old ↦ inl old | inr new ↦ inr (ap suc new.0, new.1) ]

-- and mean what they meant
pub has_left : (g more : List Content) → IsCanonical g → (returns : List ℕ) (wild : Bool) (n : ℕ) → n < length g
    → HasOf g n returns wild ↔ HasOf (g ++ more) n returns wild
has_left g more canon [] wild n lt = subst (λ o. IsMarked (slice_get g n) wild ↔ IsMarked o wild) (sym (slice_get_left g more n lt))
    ((λ h. h), (λ h. h))
has_left g more canon (t ∷ rest) wild n lt =
    let c = content_of g n lt in
    let there = slice_get_left g more n lt ∙ c.1 in
    let s : Stack = record { returns = rest; wild = wild } in
    let low : (m : ℕ) → In (t, m) c.0.tops → m < length g = λ m i. let p =
    (lead_below n t m c.0.tops (canon.plain n c.0 c.1).lower i).1 in omega arith in (
      (λ h. let r = (has_pushed g n c.0 t s c.1).0 h in
          (has_pushed (g ++ more) n c.0 t s there).1 (r.0, r.1, (has_left g more canon rest wild r.0 (low r.0 r.1)).0 r.2)),
      (λ h. let r = (has_pushed (g ++ more) n c.0 t s there).0 h in
          (has_pushed g n c.0 t s c.1).1 (r.0, r.1, (has_left g more canon rest wild r.0 (low r.0 r.1)).1 r.2)),
    )

-- a graph that grew keeps its nodes
pub keeps : (old new : List Content) → IsCanonical old → Grows old new → Keeps old new
keeps old new canon grows n lt = subst (λ g. (n < length g) × ((s : Stack) → Has old n s ↔ Has g n s)) (sym grows.1)
    (let l = length-append old grows.0 in omega arith, λ s. has_left old grows.0 canon s.returns s.wild n lt)

-- a content that no node holds may be added
pub adds : (g : List Content) (c : Content) → IsCanonical g → IsPlain (length g) c → ((n : ℕ) → slice_get g n ≡ Some c → ⊥)
    → IsCanonical (g ++ c ∷ [])
adds g c canon plain absent = record {
  first = old 0 _ canon.first;
  second = old 1 _ canon.second;
  third = old 2 _ canon.third;
  plain = λ n d is. elim (split_new g c d n is) [
    | inl at ↦ canon.plain n d at
    | inr new ↦ subst (λ (x : Content). IsPlain n x) new.1 (subst (λ (k : ℕ). IsPlain k c) (sym new.0) plain)
  ];
  once = λ m n d at_m at_n. elim (split_new g c d m at_m) [
    | inl in_m ↦ elim (split_new g c d n at_n) [
      | inl in_n ↦ canon.once m n d in_m in_n
      | inr new ↦ absurd (absent m (in_m ∙ ap Some (sym new.1)))
    ]
    | inr new_m ↦ elim (split_new g c d n at_n) [
      | inl in_n ↦ absurd (absent n (in_n ∙ ap Some (sym new_m.1)))
      | inr new ↦ new_m.0 ∙ sym new.0
    ]
  ];
}
  where
    old : (n : ℕ) (d : Content) → slice_get g n ≡ Some d → slice_get (g ++ c ∷ []) n ≡ Some d
    old n d is = slice_get_left g (c ∷ []) n (slice_get_within g n d is) ∙ is

-- a content that may be at the end, and that may be there already, may be added
pub interned : (g now new : List Content) (c : Content) → g ≡ now → IsCanonical g → IsPlain (length now) c → IsAdded g c new
    → IsCanonical new
interned g now new c is canon plain (inl same) = subst IsCanonical (sym same) canon
interned g now new c is canon plain (inr more) =
    subst IsCanonical (sym more.1) (adds g c canon (subst (λ (x : List Content). IsPlain (length x) c) (sym is) plain) more.0)

pub interned_at : (g new : List Content) (c : Content) (n : ℕ) → n ≡ length g → new ≡ g ++ c ∷ [] → slice_get new n ≡ Some c
interned_at g new c n is grown = ap (λ (x : List Content). slice_get x n) grown ∙ (ap (slice_get (g ++ c ∷ [])) is ∙ slice_get_new g c)
