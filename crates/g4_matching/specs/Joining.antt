-- Joining two partitions.
use Rattle.std.specs.Prelude.{◌≡◌, ℕ, ◌+◌, ◌<◌, ◌≤◌, ◌⊎◌, ◌↔◌, List, length, get_or}
use Rattle.g4_matching.specs.Partitions.{Classing, class_in}

-- no bound is left from this place on
abbrev pub IsEnd : List ℕ → ℕ → Type 0
IsEnd bounds i = length bounds ≤ i

-- the bound is at the place
abbrev pub IsAt : List ℕ → ℕ → ℕ → Type 0
IsAt bounds i b = (i < length bounds) × (get_or bounds i 0 ≡ b)

-- the lesser of the bounds at two places
pub record IsNext (left : List ℕ) (i : ℕ) (right : List ℕ) (j b : ℕ) : Type 0 where
  pub one : IsAt left i b ⊎ IsAt right j b
  pub left_after : i < length left → b ≤ get_or left i 0
  pub right_after : j < length right → b ≤ get_or right j 0

-- the place after the bound, where the bound is at the place
abbrev pub IsPast : List ℕ → ℕ → ℕ → ℕ → Type 0
IsPast bounds i b next = (IsAt bounds i b × (next ≡ i + 1)) ⊎ ((IsAt bounds i b → ⊥) × (next ≡ i))

-- two numbers have one class where they have one by each of the two
abbrev pub TellsBoth : Classing → Classing → Classing → Type 0
TellsBoth left right c = (a b : ℕ) → (class_in c a ≡ class_in c b)
    ↔ ((class_in left a ≡ class_in left b) × (class_in right a ≡ class_in right b))
