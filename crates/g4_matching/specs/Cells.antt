-- Numbers that are noted in cells.
use Rattle.std.specs.Prelude.{◌≡◌, ◌⊎◌, ℕ, List, Option, Some, slice_get}

-- nothing is noted but what was, and this number in this cell
abbrev pub IsNoted : List (Option ℕ) → ℕ → ℕ → List (Option ℕ) → Type 0
IsNoted old cell number new = (k n : ℕ) → slice_get new k ≡ Some (Some n) → ((k ≡ cell) × (n ≡ number)) ⊎ (slice_get old k ≡ Some (Some n))
