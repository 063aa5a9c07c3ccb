-- The faults of grammars that import others.
use Rattle.std.specs.Prelude.{◌≡◌, ◌↔◌, ℕ, List, [], Bool, true, Some, slice_get}
use Rattle.g4_source.specs.First.{IsNone, IsFirst}
use Rattle.g4_vocab.specs.Names.{first_repeated}
use Rattle.g4_merge.specs.Importing.{CanImport}
use Rattle.g4_fetch.specs.declared.closure.GrammarFile.{GrammarFile}
use Rattle.g4_fetch.specs.declared.closure.Import.{Import}
use Rattle.g4_fetch.specs.declared.closure.WithImports.{WithImports}
use Rattle.g4_imports.specs.Modes.{HasMode}
use Rattle.g4_imports.specs.declared.fault.ImportFault.{ImportFault}
use Rattle.g4_imports.specs.declared.fault.ImportFault.TheVariants.{RuleTwice, BadImport}

-- the file has a rule name twice, and the fault tells of it and of the first such name
abbrev pub RepeatsRule : GrammarFile → ImportFault → Type 0
RepeatsRule file fault = (rule : List ℕ) × (first_repeated [] file.source.rules ≡ Some rule) × (fault ≡ RuleTwice file.name rule)

-- of the files of an import, the one cannot import the other, and the fault tells of the one and of the name that it imports
pub record CannotImport (grammar : WithImports) (import : Import) (fault : ImportFault) : Type 0 where
  pub importer : GrammarFile
  pub imported : GrammarFile
  pub importer_there : slice_get grammar.files import.importer ≡ Some importer
  pub imported_there : slice_get grammar.files import.imported ≡ Some imported
  pub cannot : (modes : Bool) → (modes ≡ true) ↔ HasMode grammar import.imported
      → CanImport importer.source.kind imported.source.kind modes → ⊥
  pub told : fault ≡ BadImport importer.name import.name

-- no file has a rule name twice
abbrev pub HasOwnNames : WithImports → Type 0
HasOwnNames grammar = IsNone RepeatsRule grammar.files

-- and each import can be
abbrev pub HasNoFault : WithImports → Type 0
HasNoFault grammar = HasOwnNames grammar × IsNone (CannotImport grammar) grammar.imports

-- this is the fault that is reported: of the first file that has a rule name twice, or else of the first import that cannot be
abbrev pub IsFault : WithImports → ImportFault → Type 0
IsFault grammar (RuleTwice file rule) = IsFirst RepeatsRule grammar.files (RuleTwice file rule)
IsFault grammar (BadImport file name) = HasOwnNames grammar × IsFirst (CannotImport grammar) grammar.imports (BadImport file name)
