-- What a lexer says of its modes and rules, by their numbers.
use Rattle.std.specs.Prelude.{◌≡◌, ◌≤◌, ◌⊎◌, ℕ, zero, suc, List, [], All, slice_index_or}
use Rattle.g4_tokens.specs.declared.symbol.TheConstants.{MOST_TYPES}
use Rattle.g4_tokens.specs.Symbols.{eof, end_of_list}
use Rattle.g4_ordered.specs.declared.start.Start.{Start}
use Rattle.g4_ordered.specs.Configurations.{LexerConfig}
use Rattle.g4_ordered.specs.Network.{LexerNetwork}
use Rattle.g4_ordered.specs.Starts.{starts_of}
use Rattle.g4_lexer.specs.declared.command.LexerCommand.{LexerCommand}
use Rattle.g4_lexer.specs.declared.command.LexerCommand.TheVariants as commands
use Rattle.g4_lexer.specs.declared.lexer.Lexer.{Lexer}

-- where a match may begin in a mode; nowhere, if there is no such mode
abbrev pub starts_in : Lexer → ℕ → List LexerConfig
starts_in lexer mode = starts_of (slice_index_or lexer.modes mode [])

-- what a matcher of the lexer goes by: its network, and where a match may begin in each mode
abbrev pub matched_by : Lexer → LexerNetwork × List (List Start)
matched_by lexer = (lexer.net, lexer.modes)

-- the type of a rule's tokens; 0, if it has none
abbrev pub type_of : Lexer → ℕ → ℕ
type_of lexer rule = slice_index_or lexer.types rule 0

-- the commands of an alternative of one rule; they count from 1
abbrev pub of_alternative : List (List LexerCommand) → ℕ → List LexerCommand
of_alternative alternatives zero = []
of_alternative alternatives (suc k) = slice_index_or alternatives k []

-- the commands of a rule's alternative; none, if there is no such alternative
abbrev pub commands_of : Lexer → ℕ → ℕ → List LexerCommand
commands_of lexer rule alternative = of_alternative (slice_index_or lexer.commands rule []) alternative

-- the symbol is a token type, as of a rule, or EOF
abbrev pub IsTokenType : ℕ → Type 0
IsTokenType symbol = (symbol ≤ MOST_TYPES) ⊎ (symbol ≡ eof)

-- the command gives no type that is not a token type
abbrev pub GivesTokenType : LexerCommand → Type 0
GivesTokenType commands.Skip = Unit {0}
GivesTokenType commands.More = Unit {0}
GivesTokenType (commands.Type symbol) = IsTokenType symbol
GivesTokenType (commands.Channel channel) = Unit {0}
GivesTokenType (commands.Mode mode) = Unit {0}
GivesTokenType (commands.PushMode mode) = Unit {0}
GivesTokenType commands.PopMode = Unit {0}

-- all types that rules have or commands give are token types
pub record HasTokenTypes (lexer : Lexer) : Type 0 where
  pub rules : (rule : ℕ) → type_of lexer rule ≤ MOST_TYPES
  pub commands : (rule alternative : ℕ) → All GivesTokenType (commands_of lexer rule alternative)

-- the symbol of a token of a file: a token type, as of a rule, or EOF
abbrev pub IsOfText : ℕ → Type 0
IsOfText symbol = ((1 ≤ symbol) × (symbol ≤ MOST_TYPES)) ⊎ (symbol ≡ eof)

-- the same, or END, which closes the list
abbrev pub IsOfList : ℕ → Type 0
IsOfList symbol = ((1 ≤ symbol) × (symbol ≤ MOST_TYPES)) ⊎ (symbol ≡ eof) ⊎ (symbol ≡ end_of_list)
