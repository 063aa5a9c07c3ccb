-- The least number with a property.
use Rattle.std.specs.Prelude.{◌≤◌, ℕ, Option, Some, None}

-- the least number with the property
abbrev pub IsLeast : (ℕ → Type 0) → ℕ → Type 0
IsLeast P k = P k × ((j : ℕ) → P j → k ≤ j)

-- no number has the property, or this is the least that has it
abbrev pub FindsLeast : (ℕ → Type 0) → Option ℕ → Type 0
FindsLeast P None = (k : ℕ) → P k → ⊥
FindsLeast P (Some k) = IsLeast P k
