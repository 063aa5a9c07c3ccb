-- What parts hold, and the ranges that are pushed for them.
use Rattle.std.proofs.Common.{◌≡◌, ℕ, ◌+◌, ◌<◌, ◌≤◌, ◌⊎◌, ◌↔◌, inl, inr, List, [], ◌∷◌, length, drop, get_or, drop_of_length-le, Bool, true, false, nat_le, ◌&&◌, ◌||◌, refl, sym, subst, arith}
use Rattle.std.proofs.lemmas.Bool.Decides.{nat_tests}
use Rattle.std.specs.List.{All}
use Rattle.std.proofs.lemmas.List.{drop_more}
use Rattle.std.proofs.lemmas.List.Elements.{All-nil}
use Rattle.ucd_table.specs.Rows.{in_ranges}
use Rattle.g4_chars.specs.declared.range.Range.{Range}
use Rattle.g4_chars.specs.declared.part.Part.{Part}
use Rattle.g4_chars.specs.CharSets.{Has, IsScalar, IsRange}
use Rattle.g4_chars.specs.Building as building
use Rattle.g4_chars.specs.Building.{scalars, all_scalars}
use Rattle.g4_chars.specs.SetText.{Holds, HoldsIn}
use Rattle.g4_chars.proofs.Ranges.{has_append_left, has_append_right, has_append_cases, ranges_append, scalars_ranges, scalars_has}

-- the ranges and the parts that are left have what all parts have
pub record ArePushed (rs : List Range) (left all : List Part) : Type 0 where
  pub members : (c : ℕ) → (Has rs c ⊎ HoldsIn left c) ↔ HoldsIn all c
  pub ranges : All IsRange rs

pub all_scalars_ranges : (rs : List (ℕ × ℕ)) → building.AreRanges (all_scalars rs)
all_scalars_ranges [] = tt
all_scalars_ranges (r ∷ rs) = ranges_append (scalars r.0 (r.1 + 1)) (all_scalars rs) (scalars_ranges r.0 (r.1 + 1)) (all_scalars_ranges rs)

held_step : (c first last : ℕ) (later : Bool) → ((nat_le first c && nat_le c last) || later) ≡ true
    → ((first ≤ c) × (c < last + 1)) ⊎ (later ≡ true)
held_step c first last true h = inr refl
held_step c first last false h = inl (grind (arith, nat_tests), grind (arith, nat_tests))

held_first : (c first last : ℕ) (later : Bool) → first ≤ c → c < last + 1 → ((nat_le first c && nat_le c last) || later) ≡ true
held_first c first last later low high = grind (arith, nat_tests)

held_later : (c first last : ℕ) (later : Bool) → later ≡ true → ((nat_le first c && nat_le c last) || later) ≡ true
held_later c first last later h = grind (arith, nat_tests)

-- the scalar values in ranges of code points
pub all_scalars_has : (rs : List (ℕ × ℕ)) (c : ℕ) → Has (all_scalars rs) c ↔ ((in_ranges rs c ≡ true) × IsScalar c)
unfolding in_ranges
all_scalars_has [] c = (λ h. absurd h, λ h. absurd (grind (arith, h.0)))
all_scalars_has (r ∷ rs) c =
    let first = scalars_has r.0 (r.1 + 1) c in
    let more = all_scalars_has rs c in (
      λ h. elim (has_append_cases (scalars r.0 (r.1 + 1)) (all_scalars rs) c h) [
        | inl a ↦ let w = first.0 a in (held_first c r.0 r.1 (in_ranges rs c) w.0 w.1, w.2)
        | inr b ↦ let w = more.0 b in (held_later c r.0 r.1 (in_ranges rs c) w.0, w.1)
      ],
      λ h. elim (held_step c r.0 r.1 (in_ranges rs c) h.0) [
        | inl a ↦ has_append_left (scalars r.0 (r.1 + 1)) (all_scalars rs) c (first.1 (a.0, a.1, h.1))
        | inr b ↦ has_append_right (scalars r.0 (r.1 + 1)) (all_scalars rs) c (more.1 (b, h.1))
      ],
    )

-- at first nothing is pushed
pub pushed_first : (rs : List Range) (all : List Part) → rs ≡ [] → ArePushed rs all all
pushed_first rs all none =
    let P : List Range → Type 0 = λ l. ArePushed l all all in
    subst P (sym none) (record {
      members = λ c. (λ h. elim h [ inl n ↦ absurd n | inr more ↦ more ], λ h. inr h);
      ranges = All-nil IsRange;
    })

pushed_step : (rs after : List Range) (p : Part) (left all : List Part) → ((c : ℕ) → Has after c ↔ (Has rs c ⊎ Holds p c))
    → (All IsRange rs → All IsRange after) → ArePushed rs (p ∷ left) all → ArePushed after left all
pushed_step rs after p left all new keeps before = record {
  members = λ c. (
    λ h. elim h [
      | inl a ↦ elim ((new c).0 a) [
        | inl old ↦ (before.members c).0 (inl old)
        | inr here' ↦ (before.members c).0
            (inr (inl here'))
      ]
      | inr more ↦ (before.members c).0 (inr (inr more))
    ],
    λ h. elim ((before.members c).1 h) [
      | inl old ↦ inl ((new c).1 (inl old))
      | inr more ↦ elim more
          [ inl here' ↦ inl ((new c).1 (inr here')) | inr later ↦ inr later ]
    ],
  );
  ranges = keeps before.ranges;
}

-- one more part
pub pushed_more : (rs after : List Range) (at : ℕ) (all : List Part) (d : Part) → at < length all
    → ((c : ℕ) → Has after c ↔ (Has rs c ⊎ Holds (get_or all at d) c)) → (All IsRange rs → All IsRange after)
    → ArePushed rs (drop at all) all → ArePushed after (drop (at + 1) all) all
pushed_more rs after at all d h new keeps before =
    let P : List Part → Type 0 = λ l. ArePushed rs l all in
    pushed_step rs after (get_or all at d) (drop (at + 1) all) all new keeps (subst P (drop_more all at d h) before)

-- at last all is pushed
pub pushed_all : (rs : List Range) (at : ℕ) (all : List Part) → length all ≤ at → ArePushed rs (drop at all) all → (c : ℕ)
    → Has rs c ↔ HoldsIn all c
pushed_all rs at all past pushed c =
    let P : List Part → Type 0 = λ l. ArePushed rs l all in
    let done = subst P (drop_of_length-le all past) pushed in
    (λ h. (done.members c).0 (inl h), λ h. elim ((done.members c).1 h) [ inl a ↦ a | inr n ↦ absurd n ])
