-- A file of tokens is read.
use Rattle.std.specs.Prelude.{◌≡◌, ℕ, List, [], Option, Some, None, Result, Ok, Err}
use Rattle.g4_token_file.specs.Files.{IsTokenFile}
use Rattle.g4_token_file.specs.declared.entry.TokenEntry.{TokenEntry}
use Rattle.g4_token_file.specs.declared.fault.TokenFileFault.{TokenFileFault}
use Rattle.g4_token_file.specs.declared.fault.TokenFileFault.TheVariants as reading
use Rattle.g4_fetch.specs.Files.{Files, Opens}
use Rattle.g4_fetch.specs.declared.stop.FileFault.{FileFault}
use Rattle.g4_fetch.specs.declared.stop.FileFault.TheVariants as faults
use Rattle.g4_fetch.specs.declared.stop.Stop.{Stop}
use Rattle.g4_fetch.specs.declared.stop.Stop.TheVariants as stops
use Rattle.g4_fetch.specs.declared.stop.Halt.{Halt}
use Rattle.g4_fetch.specs.declared.stop.Halt.TheVariants as halts

-- the fault of a file that is no file of tokens, unless memory ran out
abbrev pub of_tokens : TokenFileFault → Option FileFault
of_tokens (reading.BadTokensLine line) = Some (faults.BadTokensLine line)
of_tokens reading.Types = Some faults.Types
of_tokens reading.NoMemory = None

-- The numbers in the file of this name, or how reading it stops.
pub data ReadsFile (files : Files) (name : List ℕ) : Result (List TokenEntry) Stop → Type 0 where
  missing : (stop : Stop) → Opens files name (Err stop) → ReadsFile files name (Err stop)
  faulty : (bytes : List ℕ) (error : TokenFileFault) (fault : FileFault) → Opens files name (Ok bytes) → IsTokenFile bytes (Err error)
      → of_tokens error ≡ Some fault → ReadsFile files name (Err (stops.Unreadable name fault))
  read : (bytes : List ℕ) (table : List TokenEntry) → Opens files name (Ok bytes) → IsTokenFile bytes (Ok table)
      → ReadsFile files name (Ok table)

-- the numbers of the file that is named, or none
abbrev pub ReadsTable : Files → Option (List ℕ) → Result (List TokenEntry) Stop → Type 0
ReadsTable files None result = result ≡ Ok []
ReadsTable files (Some name) result = ReadsFile files name result

-- why a call halts at a file of this name that is no file of tokens
abbrev pub IsTableHalt : List ℕ → TokenFileFault → Halt → Type 0
IsTableHalt name error (halts.Stop stop) = (fault : FileFault) × (of_tokens error ≡ Some fault) × (stop ≡ stops.Unreadable name fault)
IsTableHalt name error halts.Failed = ⊥
IsTableHalt name error halts.NoMemory = Unit {0}
