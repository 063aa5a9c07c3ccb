-- A parser grammar and its lexer grammar as one.
use Rattle.std.specs.Prelude.{◌≡◌, ◌≤◌, ◌<◌, ℕ, List, ◌++◌, length, Option, Some, None, Result, Ok, Err}
use Rattle.g4_source.specs.declared.atom.Literal.{Literal}
use Rattle.g4_source.specs.declared.source.GrammarKind.{GrammarKind}
use Rattle.g4_source.specs.declared.source.GrammarKind.TheVariants as kinds
use Rattle.g4_source.specs.declared.source.Source.{Source}
use Rattle.g4_token_file.specs.Keys.{greatest_number}
use Rattle.g4_token_file.specs.declared.entry.TokenEntry.{TokenEntry}
use Rattle.g4_tokens.specs.declared.symbol.TheConstants.{MOST_TYPES}
use Rattle.g4_vocab.specs.Answers.{CausesNumberFault}
use Rattle.g4_vocab.specs.Numbering.{first_own_literal, types_of}
use Rattle.g4_vocab.specs.declared.fault.TheConstants.{MOST_RULES}
use Rattle.g4_vocab.specs.declared.fault.NumberFault.{NumberFault}
use Rattle.g4_vocab.specs.declared.fault.NumberFault.TheVariants as numbering
use Rattle.g4_attach.specs.declared.attaching.Attached.{Attached}
use Rattle.g4_attach.specs.declared.fault.AttachFault.{AttachFault}
use Rattle.g4_attach.specs.declared.fault.AttachFault.TheVariants.{NotALexer, LiteralWithoutToken, Rules, Types, NoMemory}

-- the grammar, if it is a lexer grammar
abbrev pub if_lexer : Source → GrammarKind → Option Source
if_lexer source kinds.Lexer = Some source
if_lexer source kinds.Combined = None
if_lexer source kinds.Parser = None

abbrev pub lexer_of : Option Source → Option Source
lexer_of None = None
lexer_of (Some source) = if_lexer source source.kind

-- a parser grammar with its lexer grammar: the parser grammar with the rules of the lexer grammar after its own, and with what the lexer
-- grammar has before its rules and with its modes
abbrev pub attached_of : Source → Source → Source
attached_of parser lexer = record parser {
  prequels = lexer.prequels ++ parser.prequels;
  rules = parser.rules ++ lexer.rules;
  modes = lexer.modes;
}

-- The parser grammar is attached to this lexer grammar, whose types the table begins: each literal of the whole names a lexer rule's
-- token, and its rules are few enough.
pub record AreAttached (table : List TokenEntry) (parser lexer : Source) (attached : Attached) : Type 0 where
  pub whole : attached.source ≡ attached_of parser lexer
  pub named : first_own_literal (attached_of parser lexer) ≡ None
  pub few_rules : length (attached_of parser lexer).rules ≤ MOST_RULES
  pub types : attached.table ≡ types_of table lexer
  pub few_types : greatest_number (types_of table lexer) ≤ MOST_TYPES

-- The literal without a token is this one, as it is written.
pub record LacksToken (whole : Source) (written : List ℕ) : Type 0 where
  pub literal : Literal
  pub first : first_own_literal whole ≡ Some literal
  pub is : written ≡ literal.written

-- the causes of the faults where there is a lexer grammar
abbrev pub CausesFault : List TokenEntry → Source → Source → AttachFault → Type 0
CausesFault table parser lexer (NotALexer name) = ⊥
CausesFault table parser lexer (LiteralWithoutToken written) = LacksToken (attached_of parser lexer) written
CausesFault table parser lexer Rules = (first_own_literal (attached_of parser lexer) ≡ None)
    × (MOST_RULES < length (attached_of parser lexer).rules)
CausesFault table parser lexer Types = (first_own_literal (attached_of parser lexer) ≡ None)
    × (length (attached_of parser lexer).rules ≤ MOST_RULES) × (MOST_TYPES < greatest_number (types_of table lexer))
CausesFault table parser lexer NoMemory = Unit {0}

-- the answer where there is a lexer grammar, and where there is none
abbrev pub IsAnswer : List TokenEntry → Source → Option Source → Result Attached AttachFault → Type 0
IsAnswer table parser (Some lexer) (Ok attached) = AreAttached table parser lexer attached
IsAnswer table parser (Some lexer) (Err fault) = CausesFault table parser lexer fault
IsAnswer table parser None (Ok attached) = ⊥
IsAnswer table parser None (Err fault) = fault ≡ NotALexer parser.name

-- the call answers with both grammars as one, or with the first fault and its cause
abbrev pub IsAttached : List TokenEntry → Source → Option Source → Result Attached AttachFault → Type 0
IsAttached table parser lexer result = IsAnswer table parser (lexer_of lexer) result

-- the fault of numbering the lexer grammar
abbrev pub of_number : NumberFault → AttachFault
of_number numbering.Rules = Rules
of_number numbering.Types = Types
of_number numbering.NoMemory = NoMemory

-- the types of a lexer grammar by itself, or a fault with its cause
abbrev pub GivesTable : List TokenEntry → Source → Result (List TokenEntry) NumberFault → Type 0
GivesTable table lexer (Ok types) = (types ≡ types_of table lexer) × (length lexer.rules ≤ MOST_RULES)
    × (greatest_number types ≤ MOST_TYPES)
GivesTable table lexer (Err fault) = CausesNumberFault table lexer fault
