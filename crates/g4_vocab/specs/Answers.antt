-- What numbering answers.
use Rattle.std.specs.Prelude.{◌≡◌, ◌≤◌, ◌<◌, length, List, Result, Ok, Err, ⊤}
use Rattle.g4_source.specs.declared.atom.Literal.{Literal}
use Rattle.g4_source.specs.declared.rule.LexerRule.{LexerRule}
use Rattle.g4_source.specs.declared.source.Source.{Source}
use Rattle.g4_token_file.specs.Keys.{greatest_number}
use Rattle.g4_token_file.specs.declared.entry.TokenEntry.{TokenEntry}
use Rattle.g4_vocab.specs.Numbering.{own_of, token_lexers, types_of}
use Rattle.g4_vocab.specs.Tables.{own_by, wanted_by}
use Rattle.g4_vocab.specs.Types.{with_keys}
use Rattle.g4_vocab.specs.Vocabularies.{lexers_in, own_in, types_in}
use Rattle.g4_tokens.specs.declared.symbol.TheConstants.{MOST_TYPES}
use Rattle.g4_vocab.specs.declared.fault.TheConstants.{MOST_RULES}
use Rattle.g4_vocab.specs.declared.fault.NumberFault.{NumberFault}
use Rattle.g4_vocab.specs.declared.fault.NumberFault.TheVariants.{Rules, Types, NoMemory}
use Rattle.g4_vocab.specs.declared.named.Named.{Named}
use Rattle.g4_vocab.specs.declared.vocabulary.Vocabulary.{Vocabulary}

-- The vocabulary is of a grammar's lexer rules, its rules are few enough, and so are its types.
pub record IsVocabularyFor (source : Source) (vocabulary : Vocabulary) : Type 0 where
  pub few_rules : length source.rules ≤ MOST_RULES
  pub few_types : greatest_number (types_in vocabulary) ≤ MOST_TYPES
  pub lexers : lexers_in vocabulary ≡ token_lexers source.rules

-- The vocabulary of a grammar whose types this table begins.
pub record IsVocabularyOf (table : List TokenEntry) (source : Source) (vocabulary : Vocabulary) : Type 0 where
  pub fits : IsVocabularyFor source vocabulary
  pub own : own_in vocabulary ≡ own_of source
  pub types : types_in vocabulary ≡ types_of table source

-- the causes of the faults of numbering
abbrev pub CausesNumberFault : List TokenEntry → Source → NumberFault → Type 0
CausesNumberFault table source Rules = MOST_RULES < length source.rules
CausesNumberFault table source Types = (length source.rules ≤ MOST_RULES) × (MOST_TYPES < greatest_number (types_of table source))
CausesNumberFault table source NoMemory = Unit {0}

-- numbering gives exactly the vocabulary of the grammar, or a fault with its cause
abbrev pub GivesVocabulary : List TokenEntry → Source → Result Vocabulary NumberFault → Type 0
GivesVocabulary table source (Ok vocabulary) = IsVocabularyOf table source vocabulary
GivesVocabulary table source (Err fault) = CausesNumberFault table source fault

-- the rules and the types are few enough, or a fault with its cause
abbrev pub FitsLimits : List TokenEntry → Source → Result ⊤ NumberFault → Type 0
FitsLimits table source (Ok _) = (length source.rules ≤ MOST_RULES) × (greatest_number (types_of table source) ≤ MOST_TYPES)
FitsLimits table source (Err fault) = CausesNumberFault table source fault

-- The vocabulary has these lexer rules, literals that have tokens of their own, and types, which are few enough.
pub record IsMadeOf (lexers : List LexerRule) (own : List Literal) (types : List TokenEntry) (vocabulary : Vocabulary) : Type 0 where
  pub few : greatest_number (types_in vocabulary) ≤ MOST_TYPES
  pub lexers_are : lexers_in vocabulary ≡ lexers
  pub own_are : own_in vocabulary ≡ own
  pub types_are : types_in vocabulary ≡ types

-- the vocabulary of lexer rules without `fragment` where these tokens are named, whose types this table begins
abbrev pub GivesTypes : List TokenEntry → List LexerRule → Named → Result Vocabulary NumberFault → Type 0
GivesTypes table lexers named (Ok vocabulary) = IsMadeOf lexers (own_by lexers named) (with_keys table (wanted_by lexers named)) vocabulary
GivesTypes table lexers named (Err Rules) = ⊥
GivesTypes table lexers named (Err Types) = MOST_TYPES < greatest_number (with_keys table (wanted_by lexers named))
GivesTypes table lexers named (Err NoMemory) = Unit {0}
