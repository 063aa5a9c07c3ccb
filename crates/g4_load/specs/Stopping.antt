-- How a command line ends where fetching its grammar stops, or where that does not become one with those that it imports.
use Rattle.std.specs.Prelude.{◌≡◌, ℕ, List}
use Rattle.g4_source.specs.declared.refused.Refused.{Refused}
use Rattle.g4_source.specs.declared.refused.Refused.TheVariants as refusals
use Rattle.g4_fetch.specs.declared.stop.FileFault.{FileFault}
use Rattle.g4_fetch.specs.declared.stop.FileFault.TheVariants as reading
use Rattle.g4_fetch.specs.declared.stop.Stop.{Stop as FetchStop}
use Rattle.g4_fetch.specs.declared.stop.Stop.TheVariants as fetching
use Rattle.g4_fetch.specs.declared.stop.Halt.{Halt as FetchHalt}
use Rattle.g4_fetch.specs.declared.stop.Halt.TheVariants as halting
use Rattle.g4_imports.specs.declared.fault.ImportFault.{ImportFault}
use Rattle.g4_imports.specs.declared.fault.ImportFault.TheVariants as importing
use Rattle.g4_load.specs.declared.fault.GrammarFault.{GrammarFault}
use Rattle.g4_load.specs.declared.fault.GrammarFault.TheVariants as faults
use Rattle.g4_load.specs.declared.stop.Stop.{Stop}
use Rattle.g4_load.specs.declared.stop.Stop.TheVariants as stops
use Rattle.g4_load.specs.declared.stop.Halt.{Halt}
use Rattle.g4_load.specs.declared.stop.Halt.TheVariants as halts

-- the fault of a file that is no grammar
abbrev pub fault_in_file : FileFault → GrammarFault
fault_in_file (reading.NotUtf8 at) = faults.NotUtf8 at
fault_in_file (reading.Syntax place characters) = faults.Syntax place characters
fault_in_file (reading.BadSet place) = faults.BadSet place
fault_in_file reading.Nesting = faults.Nesting
fault_in_file (reading.BadTokensLine line) = faults.BadTokensLine line
fault_in_file reading.Types = faults.Types

-- the file in which it is told, of the main one and its own: the limit of types is told of the main file
abbrev pub file_told : List ℕ → List ℕ → FileFault → List ℕ
file_told main file (reading.NotUtf8 at) = file
file_told main file (reading.Syntax place characters) = file
file_told main file (reading.BadSet place) = file
file_told main file reading.Nesting = file
file_told main file (reading.BadTokensLine line) = file
file_told main file reading.Types = main

-- where fetching stops, by the name of the main file
abbrev pub stop_of_fetch : List ℕ → FetchStop → Stop
stop_of_fetch main (fetching.Absent name) = stops.Absent name
stop_of_fetch main (fetching.TooLarge name size) = stops.TooLarge name size
stop_of_fetch main (fetching.Unreadable name fault) = stops.Fault (file_told main name fault) (fault_in_file fault)

-- where fetching halts, unless memory runs out
abbrev pub IsHaltOfFetch : List ℕ → FetchHalt → Halt → Type 0
IsHaltOfFetch main (halting.Stop stop) (halts.Stop told) = told ≡ stop_of_fetch main stop
IsHaltOfFetch main (halting.Stop stop) halts.Failed = ⊥
IsHaltOfFetch main (halting.Stop stop) halts.NoMemory = Unit {0}
IsHaltOfFetch main halting.Failed halt = halt ≡ halts.Failed
IsHaltOfFetch main halting.NoMemory halt = halt ≡ halts.NoMemory

-- where a grammar does not become one with those that it imports: the file that has a rule name twice, or that imports
abbrev pub stop_of_import : ImportFault → Stop
stop_of_import (importing.RuleTwice file rule) = stops.Fault file (faults.RuleTwice rule)
stop_of_import (importing.BadImport file name) = stops.Fault file (faults.BadImport name)

abbrev pub halt_of_import : Refused ImportFault → Halt
halt_of_import (refusals.Fault fault) = halts.Stop (stop_of_import fault)
halt_of_import refusals.NoMemory = halts.NoMemory
