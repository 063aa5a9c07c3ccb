-- A place noted for each number.
use Rattle.std.specs.Prelude.{◌≡◌, ℕ, List, Some, slice_get}

-- what was noted stays, but what is noted for this number
abbrev pub KeepsBut : ℕ → List ℕ → List ℕ → Type 0
KeepsBut number old new = (k place : ℕ) → (k ≡ number → ⊥) → slice_get old k ≡ Some place → slice_get new k ≡ Some place

-- what was noted stays
abbrev pub Keeps : List ℕ → List ℕ → Type 0
Keeps old new = (k place : ℕ) → slice_get old k ≡ Some place → slice_get new k ≡ Some place

-- the place is noted for the number, and what was noted for others stays
pub record IsSet (old : List ℕ) (number place : ℕ) (new : List ℕ) : Type 0 where
  pub set : slice_get new number ≡ Some place
  pub keeps : KeepsBut number old new
