-- Where ranges begin and end.
use Rattle.std.specs.Prelude.{ℕ, ◌+◌, List, [], ◌∷◌}
use Rattle.g4_chars.specs.declared.range.Range.{Range}

-- the first character of each range, and the number after its last
abbrev pub bounds_of : List Range → List ℕ
bounds_of [] = []
bounds_of (r ∷ rs) = r.first ∷ (r.last + 1) ∷ bounds_of rs
