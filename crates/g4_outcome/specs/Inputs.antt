-- What is fetched of a file.
use Rattle.std.specs.Prelude.{◌≤◌, length}
use Rattle.g4_base.specs.declared.limits.TheConstants.{MOST_BYTES}
use Rattle.g4_outcome.specs.declared.input.Input.{Input}
use Rattle.g4_outcome.specs.declared.input.Input.TheVariants.{Bytes, TooLarge}

-- the content is within the limit
abbrev pub IsSmall : Input → Type 0
IsSmall (Bytes bytes) = length bytes ≤ MOST_BYTES
IsSmall (TooLarge size) = Unit {0}
