-- What the commands of lexer rules do.
use Rattle.std.specs.Prelude.{◌≡◌, ℕ, List, Option, Some, None, option_map, codes, if◌then◌else◌}
use Rattle.std.specs.List.{find}
use Rattle.std.specs.Str.{bytes_eq}
use Rattle.g4_grammar.specs.declared.token_types.TokenName.{TokenName}
use Rattle.g4_lexer.specs.declared.command.LexerCommand.{LexerCommand}
use Rattle.g4_lexer.specs.declared.command.LexerCommand.TheVariants as commands
use Rattle.g4_names.specs.declared.places.Places.{Places}
use Rattle.g4_names.specs.Places.{first_place, place_in}
use Rattle.g4_checks.specs.Commands.{decimal_after, is_channel_number}
use Rattle.g4_source.specs.declared.rule.Argument.{Argument}
use Rattle.g4_source.specs.declared.rule.Argument.TheVariants.{Name, Number}
use Rattle.g4_source.specs.declared.rule.Command.{Command}
use Rattle.g4_tokens.specs.Symbols.{eof}
use Rattle.g4_lexer_rules.specs.declared.tables.CommandTables.{CommandTables}

-- the type of a token name: that of the first of this name
abbrev pub type_named : List TokenName → List ℕ → Option ℕ
type_named types name = option_map (λ token. token.symbol) (find (λ token. bytes_eq token.name name) types)

-- the symbol of a token name: `EOF` has its own
abbrev pub symbol_of : List TokenName → List ℕ → Option ℕ
symbol_of types name = if bytes_eq name (codes "EOF") then Some eof else type_named types name

-- the number in decimal digits, if a channel can have it
abbrev pub number_of : List ℕ → Option ℕ
number_of digits = if is_channel_number digits then Some (decimal_after 0 digits) else None

-- what the command of this name does without an argument
abbrev pub bare_command : List ℕ → Option LexerCommand
bare_command name =
    if bytes_eq name (codes "skip") then Some commands.Skip else
    if bytes_eq name (codes "more") then Some commands.More else
    if bytes_eq name (codes "popMode") then Some commands.PopMode else None

-- what it does with a name: a channel or a mode has the number of its first place
abbrev pub named_command : CommandTables → List ℕ → List ℕ → Option LexerCommand
named_command tables name argument =
    if bytes_eq name (codes "type") then option_map commands.Type (symbol_of tables.types argument) else
    if bytes_eq name (codes "channel") then option_map commands.Channel (first_place tables.channels argument) else
    if bytes_eq name (codes "mode") then option_map commands.Mode (first_place tables.modes argument) else
    if bytes_eq name (codes "pushMode") then option_map commands.PushMode (first_place tables.modes argument) else None

-- what it does with a number
abbrev pub numbered_command : List ℕ → List ℕ → Option LexerCommand
numbered_command name digits = if bytes_eq name (codes "channel") then option_map commands.Channel (number_of digits) else None

-- the same for each kind of argument
abbrev pub command_with : CommandTables → List ℕ → Option Argument → Option LexerCommand
command_with tables name None = bare_command name
command_with tables name (Some (Name argument)) = named_command tables name argument
command_with tables name (Some (Number digits)) = numbered_command name digits

-- what a command does; nothing, if it is none
abbrev pub command_of : CommandTables → Command → Option LexerCommand
command_of tables command = command_with tables command.name.text command.argument

-- these places have the type of each token name
abbrev pub AreSymbols : List TokenName → Places → Type 0
AreSymbols types places = (name : List ℕ) → place_in places name ≡ type_named types name
