-- Files by their names, and the bytes of one.
use Rattle.std.specs.Prelude.{◌≡◌, ◌≤◌, ◌<◌, ℕ, List, length, Option, Some, None, Result, Ok, Err}
use Rattle.g4_base.specs.declared.limits.TheConstants.{MOST_BYTES}
use Rattle.g4_fetch.specs.declared.stop.Stop.{Stop}
use Rattle.g4_fetch.specs.declared.stop.Stop.TheVariants as stops

-- the bytes of the file of each name, where there is one
abbrev pub Files : Type 0
Files = List ℕ → Option (List ℕ)

-- The bytes of a file, or how fetching stops where there are none.
pub data Opens (files : Files) (name : List ℕ) : Result (List ℕ) Stop → Type 0 where
  absent : files name ≡ None → Opens files name (Err (stops.Absent name))
  too_large : (bytes : List ℕ) → files name ≡ Some bytes → MOST_BYTES < length bytes
      → Opens files name (Err (stops.TooLarge name (length bytes)))
  there : (bytes : List ℕ) → files name ≡ Some bytes → length bytes ≤ MOST_BYTES → Opens files name (Ok bytes)
