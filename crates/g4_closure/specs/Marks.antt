-- Marks of numbers.
use Rattle.std.specs.Prelude.{◌≡◌, ◌<◌, ◌↔◌, ℕ, List, Bool, false, IsTrue, get_or, length}

-- there are n marks, and the one of a number is set where the number is in A
pub record AreMarks (A : ℕ → Type 0) (n : ℕ) (marks : List Bool) : Type 0 where
  pub count : length marks ≡ n
  pub told : (i : ℕ) → i < n → IsTrue (get_or marks i false) ↔ A i
