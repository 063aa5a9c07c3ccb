-- Lists of ranges, as sets are built from them.
use Rattle.std.specs.Prelude.{ℕ, ◌+◌, ◌-◌, ◌≤◌, List, [], ◌∷◌, ◌++◌, min, max, nat_lt, nat_le, if◌then◌else◌}
use Rattle.std.specs.Bool.{⊤}
use Rattle.g4_chars.specs.declared.range.Range.{Range}
use Rattle.g4_chars.specs.CharSets.{IsRange}

-- each is a range
abbrev pub AreRanges : List Range → Type 0
AreRanges [] = ⊤
AreRanges (r ∷ rs) = IsRange r × AreRanges rs

-- no range begins before the one before it, and the first not before the number
abbrev pub StartFrom : ℕ → List Range → Type 0
StartFrom n [] = ⊤
StartFrom n (r ∷ rs) = (n ≤ r.first) × StartFrom r.first rs

-- the code points from the start on and below the end, as one range or none
abbrev pub between : ℕ → ℕ → List Range
between start end = if nat_lt start end then record { first = start; last = end - 1 } ∷ [] else []

-- the same without the surrogates
abbrev pub scalars : ℕ → ℕ → List Range
scalars start end = between start (min end 0xD800) ++ between (max start 0xE000) (min end 0x110000)

-- the scalar values from the start on that the ranges, which rise, leave out
abbrev pub gaps : ℕ → List Range → List Range
gaps start [] = scalars start 0x110000
gaps start (r ∷ rs) = scalars start r.first ++ gaps (r.last + 1) rs

-- one range from the first of one to the last of both
abbrev pub over : Range → Range → Range
over r s = record { first = r.first; last = max r.last s.last }

-- the range and those that start in it or after it, joined where they touch
abbrev pub joined_from : Range → List Range → List Range
joined_from r [] = r ∷ []
joined_from r (s ∷ ss) = if nat_le s.first (r.last + 1) then joined_from (over r s) ss else r ∷ joined_from s ss

-- ranges in order of their starts, joined where they touch
abbrev pub joined : List Range → List Range
joined [] = []
joined (r ∷ rs) = joined_from r rs

-- the scalar values of ranges of code points, each of them with both its ends
abbrev pub all_scalars : List (ℕ × ℕ) → List Range
all_scalars [] = []
all_scalars (r ∷ rs) = scalars r.0 (r.1 + 1) ++ all_scalars rs
