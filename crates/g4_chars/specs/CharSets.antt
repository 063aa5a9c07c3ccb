-- Sets of characters, each seen by its ranges.
use Rattle.std.specs.Prelude.{ℕ, ◌+◌, ◌<◌, ◌≤◌, ◌⊎◌, ◌↔◌, List, [], ◌∷◌}
use Rattle.std.specs.Bool.{⊤}
use Rattle.g4_chars.specs.declared.range.Range.{Range}

-- a Unicode scalar value: a code point that is no surrogate
abbrev pub IsScalar : ℕ → Type 0
IsScalar c = (c < 0xD800) ⊎ ((0xE000 ≤ c) × (c < 0x110000))

-- the character is in the range, both ends of which belong to it
abbrev pub IsWithin : Range → ℕ → Type 0
IsWithin r c = (r.first ≤ c) × (c ≤ r.last)

-- the character is in the set: one of the ranges holds it
abbrev pub Has : List Range → ℕ → Type 0
Has [] c = ⊥
Has (r ∷ rs) c = IsWithin r c ⊎ Has rs c

-- the range has a character, and ends below the surrogates or begins above them
abbrev pub IsRange : Range → Type 0
IsRange r = (r.first ≤ r.last) × ((r.last < 0xD800) ⊎ ((0xE000 ≤ r.first) × (r.last < 0x110000)))

-- each range begins past the one before, with a character between them, and the first at the number or past it
abbrev pub RiseFrom : ℕ → List Range → Type 0
RiseFrom n [] = ⊤
RiseFrom n (r ∷ rs) = (n ≤ r.first) × IsRange r × RiseFrom (r.last + 2) rs

-- the ranges are sorted, and neither touch nor overlap: the one list of ranges that has these characters
abbrev pub IsCanonical : List Range → Type 0
IsCanonical rs = RiseFrom 0 rs

-- two lists of ranges have the same characters
abbrev pub HaveSame : List Range → List Range → Type 0
HaveSame rs ss = (c : ℕ) → Has rs c ↔ Has ss c
