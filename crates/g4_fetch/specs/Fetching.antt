-- A grammar is fetched with all that it imports and with its vocabulary.
use Rattle.std.specs.Prelude.{◌≡◌, ◌<◌, ℕ, List, [], ◌∷◌, ◌++◌, length, slice_get, Option, Some, None, Result, Ok, Err, option_map, ⊤}
use Rattle.g4_source.specs.declared.source.GrammarKind.{GrammarKind}
use Rattle.g4_source.specs.declared.source.GrammarKind.TheVariants as kinds
use Rattle.g4_source.specs.declared.source.Source.{Source}
use Rattle.g4_token_file.specs.declared.entry.TokenEntry.{TokenEntry}
use Rattle.g4_fetch.specs.Closures.{FetchesGrammar, FetchesMore, Halted, file_names, number_of}
use Rattle.g4_fetch.specs.Files.{Files}
use Rattle.g4_fetch.specs.Names.{prefix_of}
use Rattle.g4_fetch.specs.Reading.{Reads}
use Rattle.g4_fetch.specs.Tables.{ReadsTable}
use Rattle.g4_fetch.specs.Vocabularies.{lexer_file, lexer_table_file, table_file}
use Rattle.g4_fetch.specs.declared.closure.Fetched.{Fetched}
use Rattle.g4_fetch.specs.declared.closure.GrammarFile.{GrammarFile}
use Rattle.g4_fetch.specs.declared.closure.WithImports.{WithImports}
use Rattle.g4_fetch.specs.declared.lexer.WithLexer.{WithLexer}
use Rattle.g4_fetch.specs.declared.stop.Stop.{Stop}

-- the number of a file, if its grammar is of this kind and that is a lexer grammar
abbrev pub lexer_number : GrammarKind → ℕ → Option ℕ
lexer_number kinds.Combined number = None
lexer_number kinds.Lexer number = Some number
lexer_number kinds.Parser number = None

-- the file of tokens of a grammar that is there, if it is a lexer grammar
abbrev pub known_table : List ℕ → Option GrammarFile → Option (List ℕ)
known_table prefix None = None
known_table prefix (Some file) = lexer_table_file prefix file.source file.source.kind

-- The grammar in the file of this name after others, with all that it imports if it is a lexer grammar; unless it is one of those, and then
-- nothing but its file of tokens is new.
pub data FetchesFile (files : Files) (prefix : List ℕ) (grammar : WithImports) (name : List ℕ) : Result WithLexer Halted → Type 0 where
  known : (number : ℕ) → number_of grammar name ≡ Some number
      → FetchesFile files prefix grammar name
      (Ok (record { grammar = grammar; lexer = None; table = known_table prefix (slice_get grammar.files number) }))
  unread : (stop : Stop) → number_of grammar name ≡ None → Reads files name (Err stop)
      → FetchesFile files prefix grammar name (Err (record { fetched = file_names grammar.files ++ name ∷ []; stop = stop }))
  halted_below : (source : Source) (halted : Halted) → number_of grammar name ≡ None → Reads files name (Ok source)
      → FetchesMore files prefix grammar (record { name = name; source = source }) (Err halted)
      → FetchesFile files prefix grammar name (Err halted)
  added : (source : Source) (more : WithImports) → number_of grammar name ≡ None → Reads files name (Ok source)
      → FetchesMore files prefix grammar (record { name = name; source = source }) (Ok more)
      → FetchesFile files prefix grammar name (Ok (record {
        grammar = more;
        lexer = lexer_number source.kind (length grammar.files);
        table = lexer_table_file prefix source source.kind;
      }))

-- A grammar that is there with all that it imports, and with the grammar that is its vocabulary, if it is a parser grammar.
pub data FetchesVocabulary (files : Files) (prefix : List ℕ) (grammar : WithImports) : Result WithLexer Halted → Type 0 where
  no_grammar : (main : GrammarFile) → slice_get grammar.files 0 ≡ Some main → lexer_file prefix main.source main.source.kind ≡ None
      → FetchesVocabulary files prefix grammar
      (Ok (record { grammar = grammar; lexer = None; table = table_file prefix main.source main.source.kind }))
  a_grammar : (main : GrammarFile) (name : List ℕ) (result : Result WithLexer Halted) → slice_get grammar.files 0 ≡ Some main
      → lexer_file prefix main.source main.source.kind ≡ Some name → FetchesFile files prefix grammar name result
      → FetchesVocabulary files prefix grammar result

-- one name, or none
abbrev pub if_named : Option (List ℕ) → List (List ℕ)
if_named None = []
if_named (Some name) = name ∷ []

-- the whole, with these numbers
abbrev pub with_table : WithLexer → Result (List TokenEntry) Stop → Result Fetched Stop
with_table parts (Ok table) = Ok (record { grammar = parts.grammar; lexer = parts.lexer; table = table })
with_table parts (Err stop) = Err stop

-- The grammar in the file of this name with all that it imports and with its vocabulary, or why there is none; and the names of the files
-- that are fetched, in order.
pub data FetchesAll (files : Files) (library : Option (List ℕ)) (name : List ℕ) : List (List ℕ) → Result Fetched Stop → Type 0 where
  grammar_halts : (halted : Halted) → FetchesGrammar files library name (Err halted)
      → FetchesAll files library name halted.fetched (Err halted.stop)
  vocabulary_halts : (grammar : WithImports) (halted : Halted) → FetchesGrammar files library name (Ok grammar)
      → FetchesVocabulary files (prefix_of library name) grammar (Err halted)
      → FetchesAll files library name halted.fetched (Err halted.stop)
  table_read : (grammar : WithImports) (with_lexer : WithLexer) (result : Result (List TokenEntry) Stop)
      → FetchesGrammar files library name (Ok grammar) → FetchesVocabulary files (prefix_of library name) grammar (Ok with_lexer)
      → ReadsTable files with_lexer.table result
      → FetchesAll files library name (file_names with_lexer.grammar.files ++ if_named with_lexer.table) (with_table with_lexer result)

-- the lexer grammar, if there is one, is one of the files, and not the first
abbrev pub IsLater : WithImports → Option ℕ → Type 0
IsLater grammar None = ⊤
IsLater grammar (Some number) = (0 < number) × (number < length grammar.files)

abbrev pub HasLexer : WithLexer → Type 0
HasLexer parts = IsLater parts.grammar parts.lexer
