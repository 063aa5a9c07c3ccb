-- Pairs of numbers, by number.
use Rattle.std.specs.Prelude.{◌≡◌, ℕ, ◌↔◌, ◌++◌, List, Some, slice_get}
use Rattle.std.specs.BTreeMap.{get}
use Rattle.g4_matching.specs.declared.pairs.Pairs.{Pairs}
use Rattle.g4_matching.specs.Returns.{node_cmp}

-- the map has the number of each pair, which is its place
abbrev pub IsNumbering : Pairs → Type 0
IsNumbering m = (p : ℕ × ℕ) (n : ℕ) → (get node_cmp m.numbers p ≡ Some n) ↔ (slice_get m.pairs.items n ≡ Some p)

-- the pairs keep their numbers
abbrev pub Grows : List (ℕ × ℕ) → List (ℕ × ℕ) → Type 0
Grows old new = (more : List (ℕ × ℕ)) × (new ≡ old ++ more)
