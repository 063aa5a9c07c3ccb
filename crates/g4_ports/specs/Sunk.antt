-- An output in memory, as contracts see it.
use Rattle.std.specs.Prelude.{ℕ, List}

-- the bytes taken, the room for them, the puts that fail, the most bytes a put, and the puts and faults so far
pub record Sunk : Type 0 where
  pub bytes : List ℕ
  pub room : ℕ
  pub failing : List ℕ
  pub most : ℕ
  pub calls : ℕ
  pub faults : ℕ
