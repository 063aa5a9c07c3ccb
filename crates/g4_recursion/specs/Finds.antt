-- What is found of elements while they are walked through.
use Rattle.std.specs.Prelude.{◌↔◌, ℕ, List, ◌⊎◌, Bool, IsTrue, Contains}
use Rattle.g4_recursion.specs.declared.loops.Found.{Found}

-- What is found shows whether the empty word is derived, and whether a loop can be empty.
pub record TellsLoops (found : Found) (IsEmpty IsLooped : Type 0) : Type 0 where
  pub nullable : IsTrue found.nullable ↔ IsEmpty
  pub looped : IsTrue found.looped ↔ IsLooped

-- The answer shows whether the empty word is derived, and the calls are those from before and these.
pub record TellsCalls (answer : Bool) (before after : List ℕ) (IsEmpty : Type 0) (IsCalled : ℕ → Type 0) : Type 0 where
  pub nullable : IsTrue answer ↔ IsEmpty
  pub calls : (j : ℕ) → Contains after j ↔ (Contains before j ⊎ IsCalled j)
