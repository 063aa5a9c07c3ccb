-- What lists of ranges hold, and how they rise.
use Rattle.std.proofs.Common.{◌≡◌, ℕ, zero, suc, ◌+◌, ◌-◌, ◌<◌, ◌≤◌, ◌⊎◌, ◌↔◌, inl, inr, List, [], ◌∷◌, ◌++◌, length, get_or, min, max, Bool, true, false, cond, ◌==◌, IsTrue, nat_lt, nat_le, refl, sym, subst, arith}
use Rattle.std.proofs.lemmas.Bool.{cases_lt}
use Rattle.std.proofs.lemmas.Bool.Decides.{nat_tests}
use Rattle.std.specs.List.{All}
use Rattle.std.specs.List.Sorted.{IsPermutation, IsNonDecreasingBy}
use Rattle.std.proofs.lemmas.List.Elements.{All-head, All-tail, All-nil, All-cons, Contains-get_or}
use Rattle.std.proofs.lemmas.List.Sorted.{Contains-permutation}
use Rattle.g4_chars.specs.declared.range.Range.{Range}
use Rattle.g4_chars.specs.CharSets.{Has, IsWithin, IsScalar, IsRange, RiseFrom, IsCanonical}
use Rattle.g4_chars.specs.Building.{AreRanges, StartFrom, between, scalars, gaps, over, joined_from, joined}

-- what two lists hold together
pub has_append_left : (rs ss : List Range) (c : ℕ) → Has rs c → Has (rs ++ ss) c
has_append_left [] ss c h = absurd h
has_append_left (r ∷ rs) ss c (inl h) = inl h
has_append_left (r ∷ rs) ss c (inr h) = inr (has_append_left rs ss c h)

pub has_append_right : (rs ss : List Range) (c : ℕ) → Has ss c → Has (rs ++ ss) c
has_append_right [] ss c h = h
has_append_right (r ∷ rs) ss c h = inr (has_append_right rs ss c h)

pub has_append_cases : (rs ss : List Range) (c : ℕ) → Has (rs ++ ss) c → Has rs c ⊎ Has ss c
has_append_cases [] ss c h = inr h
has_append_cases (r ∷ rs) ss c (inl h) = inl (inl h)
has_append_cases (r ∷ rs) ss c (inr h) = elim (has_append_cases rs ss c h) [ inl a ↦ inl (inr a) | inr b ↦ inr b ]

-- what a range at an index holds
pub has_at : (rs : List Range) (k : ℕ) (d : Range) (c : ℕ) → k < length rs → IsWithin (get_or rs k d) c → Has rs c
has_at [] k d c h w = absurd (omega arith)
has_at (r ∷ rs) zero d c h w = inl w
has_at (r ∷ rs) (suc k) d c h w = inr (has_at rs k d c (omega arith) w)

has_range : (rs : List Range) (c : ℕ) → Has rs c → (k : ℕ) × (k < length rs) × ((d : Range) → IsWithin (get_or rs k d) c)
has_range [] c h = absurd h
has_range (r ∷ rs) c (inl w) = (zero, omega arith, λ d. w)
has_range (r ∷ rs) c (inr h) = let more = has_range rs c h in (suc more.0, omega (arith, more.1), more.2)

-- a list holds what its permutation holds
pub has_permutation : (rs ss : List Range) (c : ℕ) → IsPermutation rs ss → Has rs c → Has ss c
has_permutation rs ss c p h =
    let found = has_range rs c h in
    let d : Range = record { first = 0; last = 0 } in
    let there = Contains-permutation rs ss (get_or rs found.0 d) p (Contains-get_or rs found.0 d found.1) in
    let held : IsWithin (get_or ss there.0 (get_or rs found.0 d)) c = let P : Range → Type 0 = λ r. IsWithin r c in
    subst P (sym there.2) (found.2 d) in
    has_at ss there.0 (get_or rs found.0 d) c there.1 held

-- ranges, one by one
pub ranges_from_all : (rs : List Range) → All IsRange rs → AreRanges rs
ranges_from_all [] h = tt
ranges_from_all (r ∷ rs) h = (All-head IsRange r rs h, ranges_from_all rs (All-tail IsRange r rs h))

pub all_from_ranges : (rs : List Range) → AreRanges rs → All IsRange rs
all_from_ranges [] h = All-nil IsRange
all_from_ranges (r ∷ rs) h = All-cons IsRange r rs h.0 (all_from_ranges rs h.1)

pub ranges_append : (rs ss : List Range) → AreRanges rs → AreRanges ss → AreRanges (rs ++ ss)
ranges_append [] ss a b = b
ranges_append (r ∷ rs) ss a b = (a.0, ranges_append rs ss a.1 b)

pub ranges_from_rising : (n : ℕ) (rs : List Range) → RiseFrom n rs → AreRanges rs
ranges_from_rising n [] h = tt
ranges_from_rising n (r ∷ rs) h = (h.1, ranges_from_rising (r.last + 2) rs h.2)

-- ranges in order
pub start_from : (n : ℕ) (rs : List Range) → ((k : ℕ) (d : Range) → k < length rs → n ≤ (get_or rs k d).first)
    → IsNonDecreasingBy (λ (r : Range). r.first) rs → StartFrom n rs
start_from n [] least rise = tt
start_from n (r ∷ rs) least rise = (
  least 0 r (omega arith),
  start_from r.first rs (λ k d h. rise 0 (suc k) d (omega arith) (omega (arith, h)))
      (λ i j d le h. rise (suc i) (suc j) d (omega (arith, le)) (omega (arith, h))),
)

start_lower : (n m : ℕ) (rs : List Range) → n ≤ m → StartFrom m rs → StartFrom n rs
start_lower n m [] h s = tt
start_lower n m (r ∷ rs) h s = (omega (arith, s.0), s.1)

-- a range over two that touch
over_has : (r s : Range) (c : ℕ) → r.first ≤ s.first → s.first ≤ r.last + 1 → IsWithin (over r s) c ↔ (IsWithin r c ⊎ IsWithin s c)
over_has r s c order touch = (
  λ w. elim (cases_lt r.last c)
      [ inl past ↦ inr (omega arith, grind arith) | inr in_first ↦ inl (w.0, in_first) ],
  λ w. elim w [ inl a ↦ (a.0, grind arith) | inr b ↦ (omega arith, grind arith) ],
)

over_range : (r s : Range) → IsRange r → IsRange s → r.first ≤ s.first → s.first ≤ r.last + 1 → IsRange (over r s)
over_range r s a b order touch = grind arith

joined_step_has : (r s : Range) (ss : List Range) (c : ℕ) → StartFrom r.first (s ∷ ss) → (b : Bool) → b ≡ nat_le s.first (r.last + 1)
    → (StartFrom (over r s).first ss → Has (joined_from (over r s) ss) c ↔ (IsWithin (over r s) c ⊎ Has ss c))
    → (StartFrom s.first ss → Has (joined_from s ss) c ↔ (IsWithin s c ⊎ Has ss c))
    → Has (cond b (joined_from (over r s) ss) (r ∷ joined_from s ss)) c ↔ (IsWithin r c ⊎ Has (s ∷ ss) c)
joined_step_has r s ss c start true e both rest =
    let same = both (start_lower r.first s.first ss start.0 start.1) in
    let held = over_has r s c start.0 (grind (arith, nat_tests)) in (
      λ h. elim (same.0 h) [ inl w ↦ elim (held.0 w) [ inl a ↦ inl a | inr b ↦ inr (inl b) ] | inr more ↦ inr (inr more) ],
      λ h. elim h [
        | inl a ↦ same.1 (inl (held.1 (inl a)))
        | inr more ↦ elim more
            [ inl b ↦ same.1 (inl (held.1 (inr b))) | inr further ↦ same.1 (inr further) ]
      ],
    )
joined_step_has r s ss c start false e both rest =
    let same = rest start.1 in
    (λ h. elim h [ inl a ↦ inl a | inr more ↦ inr (same.0 more) ], λ h. elim h [ inl a ↦ inl a | inr more ↦ inr (same.1 more) ])

-- ranges that are joined have what they had
pub joined_from_has : (r : Range) (rs : List Range) (c : ℕ) → StartFrom r.first rs → Has (joined_from r rs) c ↔ (IsWithin r c ⊎ Has rs c)
joined_from_has r [] c start = (λ h. elim h [ inl w ↦ inl w | inr n ↦ absurd n ], λ h. elim h [ inl w ↦ inl w | inr n ↦ absurd n ])
joined_from_has r (s ∷ ss) c start = joined_step_has r s ss c start (nat_le s.first (r.last + 1)) refl
    (joined_from_has (over r s) ss c) (joined_from_has s ss c)

joined_step_rises : (n : ℕ) (r s : Range) (ss : List Range) → n ≤ r.first → IsRange r → AreRanges (s ∷ ss)
    → StartFrom r.first (s ∷ ss) → (b : Bool) → b ≡ nat_le s.first (r.last + 1)
    → ((m : ℕ) → m ≤ (over r s).first → IsRange (over r s) → StartFrom (over r s).first ss → RiseFrom m (joined_from (over r s) ss))
    → ((m : ℕ) → m ≤ s.first → IsRange s → StartFrom s.first ss → RiseFrom m (joined_from s ss))
    → RiseFrom n (cond b (joined_from (over r s) ss) (r ∷ joined_from s ss))
joined_step_rises n r s ss least one all start true e both rest =
    let touch : s.first ≤ r.last + 1 = grind (arith, nat_tests) in
    both n least (over_range r s one all.0 start.0 touch) (start_lower r.first s.first ss start.0 start.1)
joined_step_rises n r s ss least one all start false e both rest =
    let apart : r.last + 2 ≤ s.first = grind (arith, nat_tests) in
    (least, one, rest (r.last + 2) apart all.0 start.1)

-- ranges that are joined neither touch nor overlap
pub joined_from_rises : (n : ℕ) (r : Range) (rs : List Range) → n ≤ r.first → IsRange r → AreRanges rs → StartFrom r.first rs
    → RiseFrom n (joined_from r rs)
joined_from_rises n r [] least one all start = (least, one, tt)
joined_from_rises n r (s ∷ ss) least one all start =
    joined_step_rises n r s ss least one all start (nat_le s.first (r.last + 1)) refl
    (λ m le is st. joined_from_rises m (over r s) ss le is all.1 st) (λ m le is st. joined_from_rises m s ss le is all.1 st)

pub joined_has : (rs : List Range) (c : ℕ) → StartFrom 0 rs → Has (joined rs) c ↔ Has rs c
joined_has [] c start = (λ h. h, λ h. h)
joined_has (r ∷ rs) c start = joined_from_has r rs c start.1

pub joined_rises : (rs : List Range) → AreRanges rs → StartFrom 0 rs → IsCanonical (joined rs)
joined_rises [] all start = tt
joined_rises (r ∷ rs) all start = joined_from_rises 0 r rs (omega arith) all.0 all.1 start.1

between_has_by : (start end c : ℕ) → (b : Bool) → b ≡ nat_lt start end
    → Has (cond b (record { first = start; last = end - 1 } ∷ []) []) c ↔ ((start ≤ c) × (c < end))
between_has_by start end c true e = (
  λ h. elim h [ inl w ↦ (w.0, grind (arith, nat_tests)) | inr n ↦ absurd n ],
  λ h. inl (h.0, omega arith),
)
between_has_by start end c false e = (λ h. absurd h, λ h. absurd (grind (arith, nat_tests)))

-- what the code points between two have
between_has : (start end c : ℕ) → Has (between start end) c ↔ ((start ≤ c) × (c < end))
between_has start end c = between_has_by start end c (nat_lt start end) refl

between_ranges_by : (start end : ℕ) → (end ≤ 0xD800) ⊎ ((0xE000 ≤ start) × (end ≤ 0x110000)) → (b : Bool) → b ≡ nat_lt start end
    → AreRanges (cond b (record { first = start; last = end - 1 } ∷ []) [])
between_ranges_by start end side true e =
    let some : start < end = grind (arith, nat_tests) in
    ((omega arith, elim side [ inl low ↦ inl (omega arith) | inr high ↦ inr (high.0, omega (arith, high.1)) ]), tt)
between_ranges_by start end side false e = tt

between_ranges : (start end : ℕ) → (end ≤ 0xD800) ⊎ ((0xE000 ≤ start) × (end ≤ 0x110000)) → AreRanges (between start end)
between_ranges start end side = between_ranges_by start end side (nat_lt start end) refl

pub scalars_ranges : (start end : ℕ) → AreRanges (scalars start end)
scalars_ranges start end = ranges_append (between start (min end 0xD800)) (between (max start 0xE000) (min end 0x110000))
    (between_ranges start (min end 0xD800) (inl (grind arith)))
    (between_ranges (max start 0xE000) (min end 0x110000) (inr (grind arith, grind arith)))

pub scalars_has : (start end c : ℕ) → Has (scalars start end) c ↔ ((start ≤ c) × (c < end) × IsScalar c)
scalars_has start end c =
    let low = between_has start (min end 0xD800) c in
    let high = between_has (max start 0xE000) (min end 0x110000) c in (
      λ h. elim (has_append_cases (between start (min end 0xD800)) (between (max start 0xE000) (min end 0x110000)) c h) [
        | inl a ↦ let w = low.0 a in (w.0, grind arith, inl (grind arith))
        | inr b ↦ let w = high.0 b in (grind arith, grind arith, inr (grind arith, grind arith))
      ],
      λ h. elim h.2 [
        | inl a ↦ has_append_left (between start (min end 0xD800)) (between (max start 0xE000) (min end 0x110000)) c
            (low.1 (h.0, grind arith))
        | inr b ↦ has_append_right (between start (min end 0xD800)) (between (max start 0xE000) (min end 0x110000)) c
            (high.1 (grind arith, grind arith))
      ],
    )

-- no character before their start is in ranges that rise
pub rise_past : (n : ℕ) (rs : List Range) (c : ℕ) → RiseFrom n rs → Has rs c → n ≤ c
rise_past n [] c rise h = absurd h
rise_past n (r ∷ rs) c rise (inl w) = omega (arith, rise.0, w.0)
rise_past n (r ∷ rs) c rise (inr h) = omega (arith, rise.0, rise.1.0, rise_past (r.last + 2) rs c rise.2 h)

pub rise_scalar : (n : ℕ) (rs : List Range) (c : ℕ) → RiseFrom n rs → Has rs c → IsScalar c
rise_scalar n [] c rise h = absurd h
rise_scalar n (r ∷ rs) c rise (inl w) = elim rise.1.1
    [ inl low ↦ inl (omega (arith, w.1)) | inr high ↦ inr (omega (arith, w.0, high.0), omega (arith, w.1, high.1)) ]
rise_scalar n (r ∷ rs) c rise (inr h) = rise_scalar (r.last + 2) rs c rise.2 h

-- a list that is not empty holds the first character of its first range
first_held : (r : Range) (rs : List Range) → IsCanonical (r ∷ rs) → Has (r ∷ rs) r.first
first_held r rs rise = inl (omega arith, rise.1.0)

-- a list of ranges holds nothing exactly where it is empty
pub none_held : (rs : List Range) → IsCanonical rs → IsTrue (length rs == 0) ↔ ((c : ℕ) → Has rs c → ⊥)
none_held [] rise = (λ yes c h. h, λ none. refl)
none_held (r ∷ rs) rise = (λ wrong. absurd (grind (arith, wrong)), λ none. absurd (none r.first (first_held r rs rise)))

-- and otherwise something
pub some_held : (rs : List Range) → IsCanonical rs → (((c : ℕ) → Has rs c → ⊥) → ⊥) → (c : ℕ) × Has rs c
some_held [] rise some = absurd (some (λ c h. h))
some_held (r ∷ rs) rise some = (r.first, first_held r rs rise)

pub gaps_ranges : (start : ℕ) (rs : List Range) → AreRanges (gaps start rs)
gaps_ranges start [] = scalars_ranges start 0x110000
gaps_ranges start (r ∷ rs) = ranges_append (scalars start r.first) (gaps (r.last + 1) rs) (scalars_ranges start r.first)
    (gaps_ranges (r.last + 1) rs)

rise_lower : (n m : ℕ) (rs : List Range) → n ≤ m → RiseFrom m rs → RiseFrom n rs
rise_lower n m [] h rise = tt
rise_lower n m (r ∷ rs) h rise = (omega (arith, rise.0), rise.1, rise.2)

-- what ranges that rise leave out
pub gaps_has : (start : ℕ) (rs : List Range) (c : ℕ) → RiseFrom start rs
    → Has (gaps start rs) c ↔ ((start ≤ c) × IsScalar c × (Has rs c → ⊥))
gaps_has start [] c rise =
    let all = scalars_has start 0x110000 c in
    (λ h. let w = all.0 h in (w.0, w.2, λ n. n), λ h. all.1 (h.0, grind arith, h.1))
gaps_has start (r ∷ rs) c rise =
    let before = scalars_has start r.first c in
    let later = rise_lower (r.last + 1) (r.last + 2) rs (omega arith) rise.2 in
    let rest = gaps_has (r.last + 1) rs c later in (
      λ h. elim (has_append_cases (scalars start r.first) (gaps (r.last + 1) rs) c h) [
        | inl a ↦ let w = before.0 a in (
          w.0,
          w.2,
          λ n. elim n [
            | inl i ↦ absurd (omega (arith, i.0, w.1))
            | inr j ↦ absurd
                (omega (arith, w.1, rise.1.0, rise_past (r.last + 2) rs c rise.2 j))
          ],
        )
        | inr b ↦ let w = rest.0 b in (
          omega (arith, w.0, rise.0, rise.1.0),
          w.1,
          λ n. elim n [ inl i ↦ absurd (omega (arith, i.1, w.0)) | inr j ↦ w.2 j ],
        )
      ],
      λ h. elim (cases_lt c r.first) [
        | inl first ↦ has_append_left (scalars start r.first) (gaps (r.last + 1) rs) c (before.1 (h.0, first, h.1))
        | inr not_first ↦ elim (cases_lt r.last c) [
          | inl past ↦ has_append_right (scalars start r.first) (gaps (r.last + 1) rs) c (rest.1 (omega arith, h.1, λ j. h.2 (inr j)))
          | inr inside ↦ absurd (h.2 (inl (not_first, inside)))
        ]
      ],
    )
