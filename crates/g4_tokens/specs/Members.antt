-- The members of ranges of symbols.
use Rattle.std.specs.Prelude.{◌<◌, ◌≤◌, ℕ, ◌+◌, ◌-◌, List, [], ◌∷◌, filter, not}
use Rattle.std.specs.BTreeSet.{BTreeSet, contains}
use Rattle.std.specs.List.{flat_map, range_with_len}
use Rattle.std.specs.Ordering.{nat_cmp}
use Rattle.g4_tokens.specs.declared.set.Range.{Range}

-- the symbols of a range, least first
abbrev pub range_members : Range → List ℕ
range_members r = range_with_len r.first (r.last + 1 - r.first)

-- the symbols of ranges one after another
abbrev pub members : List Range → List ℕ
members ranges = flat_map range_members ranges

-- ranges in order, none of them empty, with a symbol between one and the next that neither has
abbrev pub IsApart : List Range → Type 0
IsApart [] = Unit {0}
IsApart (r ∷ []) = r.first ≤ r.last
IsApart (r ∷ s ∷ more) = (r.first ≤ r.last) × (r.last + 1 < s.first) × IsApart (s ∷ more)

-- the symbols that are not in the set
abbrev pub left_over : BTreeSet ℕ → List ℕ → List ℕ
left_over left_out symbols = filter (λ symbol. not (contains nat_cmp left_out symbol)) symbols
