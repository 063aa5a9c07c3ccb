-- A grammar file is read, and what calls answer.
use Rattle.std.specs.Prelude.{◌≡◌, ℕ, List, Option, Some, None, Result, Ok, Err}
use Rattle.g4_reader.specs.Reading.{IsReading}
use Rattle.g4_reader.specs.declared.reader.ReadFault.{ReadFault}
use Rattle.g4_reader.specs.declared.reader.ReadFault.TheVariants as reading
use Rattle.g4_source.specs.declared.source.Source.{Source}
use Rattle.g4_fetch.specs.Files.{Files, Opens}
use Rattle.g4_fetch.specs.declared.stop.FileFault.{FileFault}
use Rattle.g4_fetch.specs.declared.stop.FileFault.TheVariants as faults
use Rattle.g4_fetch.specs.declared.stop.Stop.{Stop}
use Rattle.g4_fetch.specs.declared.stop.Stop.TheVariants as stops
use Rattle.g4_fetch.specs.declared.stop.Halt.{Halt}
use Rattle.g4_fetch.specs.declared.stop.Halt.TheVariants as halts

-- the fault of a file that is no grammar, unless memory ran out
abbrev pub of_read : ReadFault → Option FileFault
of_read (reading.NotUtf8 at) = Some (faults.NotUtf8 at)
of_read (reading.Syntax place characters) = Some (faults.Syntax place characters)
of_read (reading.BadSet place) = Some (faults.BadSet place)
of_read reading.Nesting = Some faults.Nesting
of_read reading.NoMemory = None

-- The grammar in the file of this name, or how reading it stops.
pub data Reads (files : Files) (name : List ℕ) : Result Source Stop → Type 0 where
  missing : (stop : Stop) → Opens files name (Err stop) → Reads files name (Err stop)
  faulty : (bytes : List ℕ) (error : ReadFault) (fault : FileFault) → Opens files name (Ok bytes) → IsReading bytes (Err error)
      → of_read error ≡ Some fault → Reads files name (Err (stops.Unreadable name fault))
  read : (bytes : List ℕ) (source : Source) → Opens files name (Ok bytes) → IsReading bytes (Ok source) → Reads files name (Ok source)

-- why a call halts: a stop, a failed fetch, or want of memory
abbrev pub IsHaltOf : {X : Type 0} → (Result X Stop → Type 0) → Halt → Type 0
IsHaltOf Stage (halts.Stop stop) = Stage (Err stop)
IsHaltOf Stage halts.Failed = Unit {0}
IsHaltOf Stage halts.NoMemory = Unit {0}

-- the call answers with what the stage gives, unless a fetch fails or memory runs out
abbrev pub GivesOrHalts : {X : Type 0} → (Result X Stop → Type 0) → Result X Halt → Type 0
GivesOrHalts Stage (Ok x) = Stage (Ok x)
GivesOrHalts Stage (Err halt) = IsHaltOf Stage halt

-- why a call halts at a file of this name that is no grammar
abbrev pub IsReadingHalt : List ℕ → ReadFault → Halt → Type 0
IsReadingHalt name error (halts.Stop stop) = (fault : FileFault) × (of_read error ≡ Some fault) × (stop ≡ stops.Unreadable name fault)
IsReadingHalt name error halts.Failed = ⊥
IsReadingHalt name error halts.NoMemory = Unit {0}

-- whatever files are fetched, in their order
abbrev pub AfterFetches : {X : Type 0} → (List (List ℕ) → Result X Stop → Type 0) → Result X Stop → Type 0
AfterFetches Stage result = (fetched : List (List ℕ)) × Stage fetched result
