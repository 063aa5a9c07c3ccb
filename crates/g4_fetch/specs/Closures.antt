-- A grammar with all that it imports. An import is fetched and read where no file of its name was before; then its own imports are,
-- before the rest of the importing grammar's. An import is tested after those of the imported grammar.
use Rattle.std.specs.Prelude.{◌≡◌, ◌<◌, ℕ, List, [], ◌∷◌, ◌++◌, All, length, map, slice_get, Option, Some, None, Result, Ok, Err}
use Rattle.g4_merge.specs.Importing.{imported_by}
use Rattle.g4_names.specs.Places.{first_place}
use Rattle.g4_source.specs.Blocks.{HaveAlternatives}
use Rattle.g4_source.specs.declared.source.GrammarKind.{GrammarKind}
use Rattle.g4_source.specs.declared.source.GrammarKind.TheVariants as kinds
use Rattle.g4_source.specs.declared.source.Source.{Source}
use Rattle.g4_fetch.specs.Files.{Files}
use Rattle.g4_fetch.specs.Names.{grammar_file, prefix_of}
use Rattle.g4_fetch.specs.Reading.{Reads}
use Rattle.g4_fetch.specs.declared.closure.GrammarFile.{GrammarFile}
use Rattle.g4_fetch.specs.declared.closure.Import.{Import}
use Rattle.g4_fetch.specs.declared.closure.WithImports.{WithImports}
use Rattle.g4_fetch.specs.declared.stop.Stop.{Stop}
use Rattle.g4_fetch.specs.declared.stop.Stop.TheVariants as stops
use Rattle.g4_fetch.specs.declared.stop.Halt.{Halt}
use Rattle.g4_fetch.specs.declared.stop.Halt.TheVariants as halts

-- the names of files, in order
abbrev pub file_names : List GrammarFile → List (List ℕ)
file_names files = map (λ f. f.name) files

-- the number of the file of this name, counted from 0
abbrev pub number_of : WithImports → List ℕ → Option ℕ
number_of grammar name = first_place (file_names grammar.files) name

-- a grammar without its imports
abbrev pub alone : GrammarFile → WithImports
alone file = record { files = file ∷ []; imports = [] }

-- no two files have one name: each is the first of its name
abbrev pub IsEachOnce : WithImports → Type 0
IsEachOnce grammar = (k : ℕ) (name : List ℕ) → slice_get (file_names grammar.files) k ≡ Some name → number_of grammar name ≡ Some k

-- there is the main grammar, and each block of each grammar has an alternative
abbrev pub IsWhole : WithImports → Type 0
IsWhole grammar = (0 < length grammar.files) × All (λ f. HaveAlternatives f.source) grammar.files

-- with one file more
abbrev pub with_file : WithImports → List ℕ → Source → WithImports
with_file grammar name source = record grammar { files = grammar.files ++ (record { name = name; source = source }) ∷ [] }

-- with one import more
abbrev pub with_import : WithImports → Import → WithImports
with_import grammar import = record grammar { imports = grammar.imports ++ import ∷ [] }

-- where fetching stops: the names that were fetched, in order, and why
pub record Halted : Type 0 where
  pub fetched : List (List ℕ)
  pub stop : Stop

-- the file at which fetching stops
abbrev pub stop_name : Stop → List ℕ
stop_name (stops.Absent name) = name
stop_name (stops.TooLarge name size) = name
stop_name (stops.Unreadable name fault) = name

-- where a call halts after some fetches: a stop, a failed fetch, or want of memory
abbrev pub IsHaltAfter : {X : Type 0} → (Result X Halted → Type 0) → Halt → Type 0
IsHaltAfter Stage (halts.Stop stop) = (names : List (List ℕ)) × Stage (Err (record { fetched = names; stop = stop }))
IsHaltAfter Stage halts.Failed = Unit {0}
IsHaltAfter Stage halts.NoMemory = Unit {0}

-- the call answers with what the stage gives, unless a fetch fails or memory runs out
abbrev pub GivesOrHaltsAfter : {X : Type 0} → (Result X Halted → Type 0) → Result X Halt → Type 0
GivesOrHaltsAfter Stage (Ok x) = Stage (Ok x)
GivesOrHaltsAfter Stage (Err halt) = IsHaltAfter Stage halt

-- What the files of a grammar and its imports are, once it imports these names too; or where that stops. The grammar that imports them
-- has this number.
pub data Fetches (files : Files) (prefix : List ℕ) : ℕ → List (List ℕ) → WithImports → Result WithImports Halted → Type 0 where
  no_more : (importer : ℕ) (grammar : WithImports) → Fetches files prefix importer [] grammar (Ok grammar)
  again : (importer number : ℕ) (name : List ℕ) (names : List (List ℕ)) (grammar : WithImports) (result : Result WithImports Halted)
      → number_of grammar (grammar_file prefix name) ≡ Some number
      → Fetches files prefix importer names
      (with_import grammar (record { importer = importer; imported = number; name = name })) result
      → Fetches files prefix importer (name ∷ names) grammar result
  stopped : (importer : ℕ) (name : List ℕ) (names : List (List ℕ)) (grammar : WithImports) (stop : Stop)
      → number_of grammar (grammar_file prefix name) ≡ None
      → Reads files (grammar_file prefix name) (Err stop)
      → Fetches files prefix importer (name ∷ names) grammar
      (Err (record { fetched = file_names grammar.files ++ grammar_file prefix name ∷ []; stop = stop }))
  stopped_below : (importer : ℕ) (name : List ℕ) (names : List (List ℕ)) (grammar : WithImports) (source : Source) (halted : Halted)
      → number_of grammar (grammar_file prefix name) ≡ None
      → Reads files (grammar_file prefix name) (Ok source)
      → Fetches files prefix (length grammar.files) (imported_by source) (with_file grammar (grammar_file prefix name) source) (Err halted)
      → Fetches files prefix importer (name ∷ names) grammar (Err halted)
  fetched : (importer : ℕ) (name : List ℕ) (names : List (List ℕ)) (grammar below : WithImports) (source : Source)
      (result : Result WithImports Halted)
      → number_of grammar (grammar_file prefix name) ≡ None
      → Reads files (grammar_file prefix name) (Ok source)
      → Fetches files prefix (length grammar.files) (imported_by source) (with_file grammar (grammar_file prefix name) source) (Ok below)
      → Fetches files prefix importer names
      (with_import below (record { importer = importer; imported = length grammar.files; name = name })) result
      → Fetches files prefix importer (name ∷ names) grammar result

-- a grammar with all that it imports
abbrev pub FetchesImports : Files → List ℕ → GrammarFile → Result WithImports Halted → Type 0
FetchesImports files prefix main = Fetches files prefix 0 (imported_by main.source) (alone main)

-- the names of the grammars that a grammar imports, if it is a lexer grammar
abbrev pub imported_by_lexer : Source → GrammarKind → List (List ℕ)
imported_by_lexer source kinds.Lexer = imported_by source
imported_by_lexer source kinds.Combined = []
imported_by_lexer source kinds.Parser = []

-- a grammar after others, with all that it imports if it is a lexer grammar
abbrev pub FetchesMore : Files → List ℕ → WithImports → GrammarFile → Result WithImports Halted → Type 0
FetchesMore files prefix grammar file = Fetches files prefix (length grammar.files) (imported_by_lexer file.source file.source.kind)
    (with_file grammar file.name file.source)

-- the main grammar, of this name, with all that it imports
pub data FetchesGrammar (files : Files) (library : Option (List ℕ)) (name : List ℕ) : Result WithImports Halted → Type 0 where
  unread : (stop : Stop) → Reads files name (Err stop)
      → FetchesGrammar files library name (Err (record { fetched = name ∷ []; stop = stop }))
  read_first : (source : Source) (result : Result WithImports Halted) → Reads files name (Ok source)
      → FetchesImports files (prefix_of library name) (record { name = name; source = source }) result
      → FetchesGrammar files library name result
