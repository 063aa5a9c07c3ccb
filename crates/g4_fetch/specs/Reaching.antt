-- What is reached so far, with the numbers of its files by their names.
use Rattle.std.specs.Prelude.{◌≡◌, ℕ, List}
use Rattle.g4_names.specs.Places.{first_place}
use Rattle.g4_fetch.specs.ByNames.{value_of}
use Rattle.g4_fetch.specs.Closures.{file_names}
use Rattle.g4_fetch.specs.declared.by_name.ByName.{ByName}
use Rattle.g4_fetch.specs.declared.closure.GrammarFile.{GrammarFile}
use Rattle.g4_fetch.specs.declared.closure.Import.{Import}
use Rattle.g4_fetch.specs.declared.closure.WithImports.{WithImports}

-- these files and imports
abbrev pub reached_of : List GrammarFile → List Import → WithImports
reached_of files imports = record { files = files; imports = imports }

-- the numbers are those of the files
abbrev pub AreNumbers : List GrammarFile → ByName ℕ → Type 0
AreNumbers files numbers = (name : List ℕ) → value_of numbers name ≡ first_place (file_names files) name
