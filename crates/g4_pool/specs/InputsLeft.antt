-- The inputs of a run whose files are not done.
use Rattle.std.specs.Prelude.{◌≡◌, ℕ, List, Option, Some, length, slice_get}
use Rattle.g4_outcome.specs.declared.input.Input.{Input}

-- there is a place for each input, and what is in a place is its input
pub record AreLeft (inputs : List Input) (left : List (Option Input)) : Type 0 where
  pub long : length left ≡ length inputs
  pub own : (k : ℕ) (input : Input) → slice_get left k ≡ Some (Some input) → slice_get inputs k ≡ Some input
