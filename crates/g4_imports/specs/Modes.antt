-- Which grammars have a mode beside the default one, themselves or by what they import.
use Rattle.std.specs.Prelude.{◌≡◌, ◌<◌, ℕ, List, Bool, true, not, Some, Contains, codes, length, slice_get}
use Rattle.std.specs.List.{list_any}
use Rattle.std.specs.Str.{bytes_eq}
use Rattle.g4_source.specs.declared.source.Source.{Source}
use Rattle.g4_fetch.specs.declared.closure.GrammarFile.{GrammarFile}
use Rattle.g4_fetch.specs.declared.closure.Import.{Import}
use Rattle.g4_fetch.specs.declared.closure.WithImports.{WithImports}

-- the name of another mode than the default one
abbrev pub is_other_mode : List ℕ → Bool
is_other_mode name = not (bytes_eq name (codes "DEFAULT_MODE"))

-- a mode beside the default one is declared in the grammar's own file
abbrev pub declares_mode : Source → Bool
declares_mode source = list_any is_other_mode source.modes

-- The grammar of the file with this number has a mode beside the default one: it declares one, or imports a grammar that has one.
pub data HasMode (grammar : WithImports) : ℕ → Type 0 where
  declares : (number : ℕ) (file : GrammarFile) → slice_get grammar.files number ≡ Some file → declares_mode file.source ≡ true
      → HasMode grammar number
  imports : (import : Import) → Contains grammar.imports import → import.importer < length grammar.files
      → HasMode grammar import.imported → HasMode grammar import.importer
