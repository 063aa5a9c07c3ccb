-- Where a piece ends, as far as it must be searched for.
use Rattle.std.specs.Prelude.{ℕ, Option, Some, None}

-- the answer is a number of which this holds, or None if there is no such number
abbrev pub Finds : (ℕ → Type 0) → Option ℕ → Type 0
Finds Holds (Some n) = Holds n
Finds Holds None = (n : ℕ) → Holds n → ⊥
