-- A grammar is fetched with its vocabulary.
use Rattle.std.proofs.Common.{◌≡◌, ◌<◌, ℕ, List, ◌++◌, length, Option, Some, None, Result, Ok, Err}
use Rattle.g4_source.specs.declared.source.GrammarKind.{GrammarKind}
use Rattle.g4_source.specs.declared.source.GrammarKind.TheVariants as kinds
use Rattle.g4_token_file.specs.declared.entry.TokenEntry.{TokenEntry}
use Rattle.g4_fetch.specs.Closures.{FetchesGrammar, GivesOrHaltsAfter, Halted, IsHaltAfter, file_names, number_of}
use Rattle.g4_fetch.specs.Fetching.{FetchesAll, FetchesFile, FetchesVocabulary, IsLater, grammar_halts, lexer_number, table_read, unread, vocabulary_halts}
use Rattle.g4_fetch.specs.Files.{Files}
use Rattle.g4_fetch.specs.Names.{prefix_of}
use Rattle.g4_fetch.specs.Reading.{AfterFetches, IsHaltOf, Reads}
use Rattle.g4_fetch.specs.Tables.{ReadsTable}
use Rattle.g4_fetch.specs.declared.closure.Fetched.{Fetched}
use Rattle.g4_fetch.specs.declared.closure.WithImports.{WithImports}
use Rattle.g4_fetch.specs.declared.lexer.WithLexer.{WithLexer}
use Rattle.g4_fetch.specs.declared.stop.Halt.{Halt}
use Rattle.g4_fetch.specs.declared.stop.Halt.TheVariants as halts
use Rattle.g4_fetch.specs.declared.stop.Stop.{Stop}

-- the vocabulary's grammar is not read
pub file_unread : (files : Files) (prefix : List ℕ) (grammar : WithImports) (name : List ℕ) → number_of grammar name ≡ None
    → (halt : Halt) → IsHaltOf (Reads files name) halt → IsHaltAfter (FetchesFile files prefix grammar name) halt
file_unread files prefix grammar name none (halts.Stop stop) is = (_, unread stop none is)
file_unread files prefix grammar name none halts.Failed is = tt
file_unread files prefix grammar name none halts.NoMemory is = tt

-- a lexer grammar after others is not the first file
pub is_later : (kind : GrammarKind) (number : ℕ) (grammar : WithImports) → 0 < number → number < length grammar.files
    → IsLater grammar (lexer_number kind number)
is_later kinds.Combined number grammar some less = tt
is_later kinds.Lexer number grammar some less = (some, less)
is_later kinds.Parser number grammar some less = tt

module _ (files : Files) (library : Option (List ℕ)) (name : List ℕ) where
  abbrev All : Result Fetched Stop → Type 0
  All = AfterFetches (FetchesAll files library name)

  -- the grammar is not fetched
  pub all_without_grammar : (halt : Halt) → IsHaltAfter (FetchesGrammar files library name) halt → IsHaltOf All halt
  all_without_grammar (halts.Stop stop) is = (is.0, grammar_halts (record { fetched = is.0; stop = stop }) is.1)
  all_without_grammar halts.Failed is = tt
  all_without_grammar halts.NoMemory is = tt

  module _ (grammar : WithImports) (is : FetchesGrammar files library name (Ok grammar)) where
    -- or its vocabulary
    pub all_without_vocabulary : (halt : Halt) → IsHaltAfter (FetchesVocabulary files (prefix_of library name) grammar) halt
        → IsHaltOf All halt
    all_without_vocabulary (halts.Stop stop) at =
        (at.0, vocabulary_halts grammar (record { fetched = at.0; stop = stop }) is at.1)
    all_without_vocabulary halts.Failed at = tt
    all_without_vocabulary halts.NoMemory at = tt

    module _ (parts : WithLexer) (has : FetchesVocabulary files (prefix_of library name) grammar (Ok parts)) where
      -- or the file of its tokens
      pub all_without_table : (halt : Halt) → IsHaltOf (ReadsTable files parts.table) halt → IsHaltOf All halt
      all_without_table (halts.Stop stop) at = (_, table_read grammar parts (Err stop) is has at)
      all_without_table halts.Failed at = tt
      all_without_table halts.NoMemory at = tt

      -- all are
      pub all_fetched : (table : List TokenEntry) → ReadsTable files parts.table (Ok table)
          → All (Ok (record { grammar = parts.grammar; lexer = parts.lexer; table = table }))
      all_fetched table at = (_, table_read grammar parts (Ok table) is has at)
