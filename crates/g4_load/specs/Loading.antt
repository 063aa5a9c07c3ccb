-- A grammar is loaded: its file is read with those of all that it imports and with its vocabulary, these become one grammar, and its rules
-- are numbered and checked.
use Rattle.std.specs.Prelude.{◌≡◌, ◌≤◌, ℕ, List, All, IfSome, map, Option, Result, Ok, Err}
use Rattle.g4_source.specs.declared.source.Source.{Source}
use Rattle.g4_source.specs.Blocks.{HaveAlternatives}
use Rattle.g4_source.specs.Rules.{lexer_rules}
use Rattle.g4_grammar.specs.Written.{RulesAreDefined, RulesCanRun, predicate_texts}
use Rattle.g4_tokens.specs.declared.symbol.TheConstants.{MOST_TYPES}
use Rattle.g4_vocab.specs.Answers.{FitsLimits}
use Rattle.g4_vocab.specs.Numbering.{own_of, token_lexers, types_of}
use Rattle.g4_vocab.specs.Shown.{literals_of, names_of, shown_of, token_types}
use Rattle.g4_checks.specs.Checking.{IsChecked}
use Rattle.g4_checks.specs.Predicates.{ArePredicates}
use Rattle.g4_lexer_rules.specs.Tables.{tables_of}
use Rattle.g4_lexer_rules.specs.Rules.{rule_of_literal, types_of_rules}
use Rattle.g4_lexer_rules.specs.declared.lexer_rules.LexerRules.{LexerRules}
use Rattle.g4_resolve.specs.Resolving.{resolved}
use Rattle.g4_token_file.specs.declared.entry.TokenEntry.{TokenEntry}
use Rattle.g4_fetch.specs.Fetching.{FetchesAll}
use Rattle.g4_fetch.specs.Files.{Files}
use Rattle.g4_fetch.specs.declared.closure.Fetched.{Fetched}
use Rattle.g4_fetch.specs.declared.closure.WithImports.{WithImports}
use Rattle.g4_fetch.specs.declared.stop.Stop.{Stop as FetchStop}
use Rattle.g4_imports.specs.Composites.{AreComposites}
use Rattle.g4_imports.specs.Faults.{HasNoFault, IsFault}
use Rattle.g4_imports.specs.declared.composite.Composites.{Composites}
use Rattle.g4_imports.specs.declared.fault.ImportFault.{ImportFault}
use Rattle.g4_load.specs.declared.loading.Loaded.{Loaded}
use Rattle.g4_load.specs.declared.loading.Numbered.{Numbered}
use Rattle.g4_load.specs.Faults.{of_number, of_check}
use Rattle.g4_load.specs.Locating.{OfWhole}
use Rattle.g4_load.specs.Stages.{Gives, IsErrorOf, OfFile, Then}
use Rattle.g4_load.specs.Stopping.{stop_of_fetch, stop_of_import}
use Rattle.g4_load.specs.Uniting.{Unites}
use Rattle.g4_load.specs.declared.whole.United.{United}
use Rattle.g4_load.specs.declared.fault.CheckError.{CheckError}
use Rattle.g4_load.specs.declared.fault.GrammarFault.{GrammarFault}
use Rattle.g4_load.specs.declared.stop.Stop.{Stop}

-- Reading a grammar with all that it imports and with its vocabulary, over the files: the names that are fetched, in order, and the grammar
-- as it is written, or how the command line stops. The names of other files begin with the library, or else with the main file's folder.
pub data Reads (files : Files) (library : Option (List ℕ)) (name : List ℕ) : List (List ℕ) → Result Fetched Stop → Type 0 where
  stops : (fetched : List (List ℕ)) (stop : FetchStop) → FetchesAll files library name fetched (Err stop)
      → Reads files library name fetched (Err (stop_of_fetch name stop))
  reads : (fetched : List (List ℕ)) (grammar : Fetched) → FetchesAll files library name fetched (Ok grammar)
      → Reads files library name fetched (Ok grammar)

-- a grammar with all that it imports as one, and its lexer grammar, if there is one, the same; or the first fault of these
abbrev pub Composes : WithImports → Option ℕ → Result Composites Stop → Type 0
Composes grammar lexer (Ok composites) = HasNoFault grammar × AreComposites grammar.files lexer composites
Composes grammar lexer (Err stop) = (fault : ImportFault) × IsFault grammar fault × (stop ≡ stop_of_import fault)

-- the same as one grammar, or why a parser grammar has no lexer grammar
abbrev pub Merges : List ℕ → Fetched → Result United Stop → Type 0
Merges name fetched = Then (Composes fetched.grammar fetched.lexer)
    (λ composites. OfFile name (Unites fetched.table composites composites.grammar.merged.source.kind))

-- the rules of the lexer of a source: of the literals that have tokens of their own, the lexer rules, and the type of each
abbrev pub rules_of_lexer : List TokenEntry → Source → LexerRules
rules_of_lexer table source = record {
  literals = map rule_of_literal (literals_of table source);
  rules = lexer_rules source.rules;
  types = types_of_rules (names_of (types_of table source)) (literals_of table source) source.rules;
}

-- A source without fault whose types begin with these, as it is handed on. Its predicates are those of its parser rules, in order.
pub record IsLoaded (table : List TokenEntry) (source : Source) (loaded : Loaded) : Type 0 where
  pub rules : loaded.rules ≡ resolved (types_of table source) source
  pub predicates : ArePredicates (predicate_texts source.rules) loaded.predicates
  pub shown : loaded.shown ≡ shown_of table source
  pub lexer : loaded.lexer ≡ (rules_of_lexer table source, tables_of source (names_of (types_of table source)))

-- the source is handed on so
abbrev pub HandsOn : List TokenEntry → Source → Result Loaded GrammarFault → Type 0
HandsOn table source (Ok loaded) = IsLoaded table source loaded
HandsOn table source (Err fault) = ⊥

-- the grammar, where its rules have no fault
abbrev pub Checks : List TokenEntry → Source → Result Loaded GrammarFault → Type 0
Checks table source = Then (Gives (IsChecked source) of_check) (λ _. HandsOn table source)

-- the grammar of a source, or its first fault: a limit, a fault of the rules
abbrev pub Numbers : List TokenEntry → Source → Result Loaded GrammarFault → Type 0
Numbers table source = Then (Gives (FitsLimits table source) of_number) (λ _. Checks table source)

-- the grammar in the main file of this name, as one
abbrev pub LoadsUnited : List ℕ → United → Result Loaded Stop → Type 0
LoadsUnited name united = OfWhole name united.whole (Numbers united.table united.whole.source)

-- the grammar as it is written, with all that it imports and with its lexer grammar, as one
abbrev pub Unifies : Files → Option (List ℕ) → List ℕ → List (List ℕ) → Result United Stop → Type 0
Unifies files library name fetched = Then (Reads files library name fetched) (Merges name)

-- the grammar that is read, numbered and checked, or the fault at which that ends
abbrev pub Loads : Files → Option (List ℕ) → List ℕ → List (List ℕ) → Result Loaded Stop → Type 0
Loads files library name fetched = Then (Unifies files library name fetched) (LoadsUnited name)

-- the lexer of a source without fault can be made with these types
pub record IsReady (source : Source) (numbered : Numbered) : Type 0 where
  pub low_names : All (λ name. name.symbol ≤ MOST_TYPES) numbered.types.names
  pub low_literals : All (λ literal. literal.symbol ≤ MOST_TYPES) numbered.types.literals
  pub defined : RulesAreDefined source.rules
  pub run : RulesCanRun source.rules

-- the parser rules, their predicates and the token types of a source without fault, whose types begin with these
pub record IsNumbered (table : List TokenEntry) (source : Source) (numbered : Numbered) : Type 0 where
  pub fits : FitsLimits table source (Ok tt)
  pub checked : IsChecked source (Ok tt)
  pub rules : numbered.rules ≡ resolved (types_of table source) source
  pub predicates : ArePredicates (predicate_texts source.rules) numbered.predicates
  pub types : numbered.types ≡ token_types (token_lexers source.rules) (own_of source) (types_of table source)

-- the call answers with these, or with the first fault of the source
abbrev pub GivesNumbered : List TokenEntry → Source → Result Numbered CheckError → Type 0
GivesNumbered table source (Ok numbered) = IsNumbered table source numbered
GivesNumbered table source (Err error) = IsErrorOf (Numbers table source) error

-- both grammars have an alternative in each block
abbrev pub AreFull : Composites → Type 0
AreFull composites = HaveAlternatives composites.grammar.merged.source
    × IfSome composites.lexer (λ lexer. HaveAlternatives lexer.merged.source)
