-- What the bounds of a set's ranges say of it.
use Rattle.std.proofs.Common.{◌≡◌, ℕ, zero, suc, ◌+◌, ◌-◌, ◌<◌, ◌≤◌, ◌⊎◌, ◌↔◌, inl, inr, List, [], ◌∷◌, length, get_or, slice_index_or, refl, sym, ◌∙◌, ap, subst, arith}
use Rattle.std.proofs.lemmas.Bool.Decides.{nat_tests}
use Rattle.std.specs.List.Sorted.{IsStrictlyIncreasing}
use Rattle.g4_chars.specs.declared.range.Range.{Range}
use Rattle.g4_chars.specs.CharSets.{Has, IsCanonical, RiseFrom}
use Rattle.g4_matching.specs.Bounds.{bounds_of}
use Rattle.g4_matching.specs.Partitions.{AreAlternate, Classing, IsPartition, TellsSet, class_in, part_in}
use Rattle.g4_matching.proofs.Counted.{one_before}

-- a rising list after a lesser number
rising_after : (x : ℕ) (xs : List ℕ) → IsStrictlyIncreasing xs → (0 < length xs → x < get_or xs 0 0) → IsStrictlyIncreasing (x ∷ xs)
rising_after x xs rising less zero within = less (omega arith)
rising_after x xs rising less (suc k) within =
    let next : suc k + 1 ≡ suc (k + 1) = omega arith in
    subst (λ (m : ℕ). get_or xs k 0 < get_or (x ∷ xs) m 0) (sym next) (rising k (omega arith))

-- the first bound is the first character of the first range
first_bound : (n : ℕ) (rs : List Range) → RiseFrom n rs → 0 < length (bounds_of rs) → n ≤ get_or (bounds_of rs) 0 0
first_bound n [] rise some = absurd (omega arith)
first_bound n (r ∷ rs) rise some = rise.0

-- bounds of ranges rise
bounds_rise : (n : ℕ) (rs : List Range) → RiseFrom n rs → IsStrictlyIncreasing (bounds_of rs)
bounds_rise n [] rise = λ k within. absurd (omega arith)
bounds_rise n (r ∷ rs) rise =
    let first = rise.1.0 in
    let rest = bounds_rise (r.last + 2) rs rise.2 in
    rising_after r.first ((r.last + 1) ∷ bounds_of rs)
    (rising_after (r.last + 1) (bounds_of rs) rest (λ some. let h = first_bound (r.last + 2) rs rise.2 some in omega arith))
    (λ some. omega arith)

pub canonical_rise : (rs : List Range) → IsCanonical rs → IsStrictlyIncreasing (bounds_of rs)
canonical_rise rs canonical = bounds_rise 0 rs canonical

-- a number before all ranges is before all bounds, and in no range
before_all : (n : ℕ) (rs : List Range) (a : ℕ) → RiseFrom n rs → a < n → (part_in (bounds_of rs) a ≡ 0) × (Has rs a → ⊥)
before_all n [] a rise less = (refl, λ h. h)
before_all n (r ∷ rs) a rise less =
    let first = rise.0 in
    let range = rise.1.0 in
    let rest = before_all (r.last + 2) rs a rise.2 (omega arith) in
    let e = one_before ((r.last + 1) ∷ bounds_of rs) r.first a in
    let f = one_before (bounds_of rs) (r.last + 1) a in (
      grind (arith, nat_tests),
      λ h. elim h [ inl within ↦ (let le = within.0 in absurd (omega arith)) | inr more ↦ rest.1 more ],
    )

-- the class by parts that are 0 and 1 in turn tells whether the number is in the set
abbrev Tells : List Range → List ℕ → ℕ → ℕ → Type 0
Tells rs classes k a = ((slice_index_or classes k 0 ≡ 1) × Has rs a) ⊎ ((slice_index_or classes k 0 ≡ 0) × (Has rs a → ⊥))

-- a number is before the range, in it, or past it
cases : (r : Range) (a : ℕ) → (a < r.first) ⊎ (((r.first ≤ a) × (a ≤ r.last)) ⊎ (r.last < a))
cases r a = elim (split a r.first) [
  | inl less ↦ inl less
  | inr le ↦ elim (split r.last a) [ inl past ↦ inr (inr past) | inr within ↦ inr (inl (le, within)) ]
]
  where
    split : (m n : ℕ) → (m < n) ⊎ (n ≤ m)
    split m n = grind arith

module _ (parts : ℕ) (classes : List ℕ) (alternate : AreAlternate parts classes) where
  -- with some parts before
  tells_from : (n : ℕ) (rs : List Range) (k a : ℕ) → RiseFrom n rs → slice_index_or classes k 0 ≡ 0 → k + length (bounds_of rs) < parts
      → Tells rs classes (k + part_in (bounds_of rs) a) a
  tells_from n [] k a rise out within =
      inr (ap (λ (m : ℕ). slice_index_or classes m 0) same ∙ out, λ h. h)
    where
      same : k + part_in [] a ≡ k
      same = omega arith
  tells_from n (r ∷ rs) k a rise out within = elim (cases r a) [
    | inl less ↦ (let b = before_all r.first (r ∷ rs) a rise_first less in
        inr (ap (λ (m : ℕ). slice_index_or classes (k + m) 0) b.0 ∙ ap (λ (m : ℕ). slice_index_or classes m 0) none ∙ out, b.1))
    | inr more ↦ elim more [
      | inl inside ↦ inl (ap (λ (m : ℕ). slice_index_or classes m 0) (one inside) ∙ odd, inl inside)
      | inr past ↦ (let two : k + part_in (bounds_of (r ∷ rs)) a ≡ k + 2 + part_in (bounds_of rs) a = both past in
          let t = tells_from (r.last + 2) rs (k + 2) a rise.2 even (omega arith) in
          elim t [
            | inl member ↦ inl (ap (λ (m : ℕ). slice_index_or classes m 0) two ∙ member.0, inr member.1)
            | inr no_more ↦ inr (
              ap (λ (m : ℕ). slice_index_or classes m 0) two ∙ no_more.0,
              λ h. elim h [ inl inside ↦ (let le = inside.1 in absurd (omega arith)) | inr later ↦ no_more.1 later ],
            )
          ])
    ]
  ]
    where
      rise_first : RiseFrom r.first (r ∷ rs)
      rise_first = (omega arith, rise.1, rise.2)

      none : k + 0 ≡ k
      none = omega arith

      odd : slice_index_or classes (k + 1) 0 ≡ 1
      odd = let e = alternate.next k (omega arith) in omega (arith, out)

      even : slice_index_or classes (k + 2) 0 ≡ 0
      even = let e : slice_index_or classes (k + 1 + 1) 0 ≡ 1 - slice_index_or classes (k + 1) 0 =
          alternate.next (k + 1) (omega arith) in
          let same : k + 2 ≡ k + 1 + 1 = omega arith in
          let f = ap (λ (m : ℕ). slice_index_or classes m 0) same in
          let o = odd in
          omega arith

      one : (r.first ≤ a) × (a ≤ r.last) → k + part_in (bounds_of (r ∷ rs)) a ≡ k + 1
      one inside =
          let low = inside.0 in
          let high = inside.1 in
          let rest = (before_all (r.last + 2) rs a rise.2 (omega arith)).0 in
          let e = one_before ((r.last + 1) ∷ bounds_of rs) r.first a in
          let f = one_before (bounds_of rs) (r.last + 1) a in
          grind (arith, nat_tests)

      both : r.last < a → k + part_in (bounds_of (r ∷ rs)) a ≡ k + 2 + part_in (bounds_of rs) a
      both past =
          let range = rise.1.0 in
          let e = one_before ((r.last + 1) ∷ bounds_of rs) r.first a in
          let f = one_before (bounds_of rs) (r.last + 1) a in
          grind (arith, nat_tests)

  -- with none before
  tells_one : (rs : List Range) (a : ℕ) → IsCanonical rs → parts ≡ length (bounds_of rs) + 1
      → Tells rs classes (part_in (bounds_of rs) a) a
  tells_one rs a canonical many =
      let same : 0 + part_in (bounds_of rs) a ≡ part_in (bounds_of rs) a = omega arith in
      subst (λ (k : ℕ). Tells rs classes k a) same (tells_from 0 rs 0 a canonical alternate.first (omega arith))

  -- so two numbers have one class where the set has both or neither
  pub tells_set : (rs : List Range) (c : Classing) → IsCanonical rs → parts ≡ length (bounds_of rs) + 1 → c.bounds ≡ bounds_of rs
      → c.classes ≡ classes → TellsSet rs c
  tells_set rs c canonical many bounds_are classes_are a b = (to (at a) (at b), from (at a) (at b))
    where
      is : (x : ℕ) → class_in c x ≡ slice_index_or classes (part_in (bounds_of rs) x) 0
      is x = ap (λ (l : List ℕ). slice_index_or l (part_in c.bounds x) 0) classes_are
          ∙ ap (λ (l : List ℕ). slice_index_or classes (part_in l x) 0) bounds_are

      at : (x : ℕ) → ((class_in c x ≡ 1) × Has rs x) ⊎ ((class_in c x ≡ 0) × (Has rs x → ⊥))
      at x = elim (tells_one rs x canonical many) [
        | inl member ↦ inl (is x ∙ member.0, member.1)
        | inr never ↦ inr (is x ∙ never.0, never.1)
      ]

      to : ((class_in c a ≡ 1) × Has rs a) ⊎ ((class_in c a ≡ 0) × (Has rs a → ⊥))
          → ((class_in c b ≡ 1) × Has rs b) ⊎ ((class_in c b ≡ 0) × (Has rs b → ⊥)) → class_in c a ≡ class_in c b
          → Has rs a ↔ Has rs b
      to (inl x) (inl y) same = ((λ _. y.1), λ _. x.1)
      to (inl x) (inr y) same = let e = x.0 in let f = y.0 in absurd (omega arith)
      to (inr x) (inl y) same = let e = x.0 in let f = y.0 in absurd (omega arith)
      to (inr x) (inr y) same = ((λ h. absurd (x.1 h)), λ h. absurd (y.1 h))

      from : ((class_in c a ≡ 1) × Has rs a) ⊎ ((class_in c a ≡ 0) × (Has rs a → ⊥))
          → ((class_in c b ≡ 1) × Has rs b) ⊎ ((class_in c b ≡ 0) × (Has rs b → ⊥)) → Has rs a ↔ Has rs b
          → class_in c a ≡ class_in c b
      from (inl x) (inl y) same = x.0 ∙ sym y.0
      from (inl x) (inr y) same = absurd (y.1 (same.0 x.1))
      from (inr x) (inl y) same = absurd (x.1 (same.1 y.1))
      from (inr x) (inr y) same = x.0 ∙ sym y.0

-- the parts of a set are a partition
pub set_partition : (rs : List Range) (parts : ℕ) (c : Classing) → IsCanonical rs → AreAlternate parts c.classes
    → parts ≡ length (bounds_of rs) + 1 → c.bounds ≡ bounds_of rs → c.count ≡ 2 → IsPartition c
set_partition rs parts c canonical alternate many bounds_are two = record {
  rising = subst IsStrictlyIncreasing (sym bounds_are) (canonical_rise rs canonical);
  parts = (let n = alternate.count in let e = ap length bounds_are in omega arith);
  within = λ a. let w = alternate.within (part_in c.bounds a) in omega arith;
}

-- with no range no number is told from another
pub tells_empty : (rs : List Range) (c : Classing) → IsPartition c → c.count ≡ 1 → rs ≡ [] → TellsSet rs c
tells_empty rs c p one none a b = (
  (λ same. subst (λ (l : List Range). Has l a ↔ Has l b) (sym none) ((λ h. h), λ h. h)),
  (λ together. let x = p.within a in let y = p.within b in omega arith),
)
