-- What the commands give as types of tokens.
use Rattle.std.proofs.Common.{ℕ, suc, ◌≤◌, inl, inr, List, [], ◌∷◌, map, slice_index_or, Bool, true, false, cond, All, Option, Some, None, option_map, codes, refl, arith}
use Rattle.std.specs.List.{cons_option, filter_map, find}
use Rattle.std.specs.Str.{bytes_eq}
use Rattle.std.proofs.lemmas.List.Elements.{All-cons, All-map, All-nil}
use Rattle.g4_grammar.specs.declared.token_types.TokenName.{TokenName}
use Rattle.g4_lexer.specs.Lexers.{GivesTokenType}
use Rattle.g4_lexer.specs.declared.command.LexerCommand.{LexerCommand}
use Rattle.g4_lexer.specs.declared.command.LexerCommand.TheVariants as commands
use Rattle.g4_names.specs.Places.{first_place}
use Rattle.g4_source.specs.declared.rule.Argument.{Argument}
use Rattle.g4_source.specs.declared.rule.Argument.TheVariants.{Name, Number}
use Rattle.g4_source.specs.declared.rule.Command.{Command}
use Rattle.g4_tokens.specs.Symbols.{eof}
use Rattle.g4_tokens.specs.declared.symbol.TheConstants.{MOST_TYPES}
use Rattle.g4_lexer_rules.specs.Commands.{bare_command, command_of, command_with, named_command, number_of, symbol_of, type_named}
use Rattle.g4_lexer_rules.specs.declared.tables.CommandTables.{CommandTables}

-- the command gives a token type or `EOF`, if there is one
abbrev Gives : Option LexerCommand → Type 0
Gives None = Unit {0}
Gives (Some command) = GivesTokenType command

-- one of two commands, each of which does
either_gives : (b : Bool) (this that : Option LexerCommand) → Gives this → Gives that → Gives (cond b this that)
either_gives true this that g h = g
either_gives false this that g h = h

-- a channel or a mode is no type
channel_gives : (o : Option ℕ) → Gives (option_map commands.Channel o)
channel_gives None = tt
channel_gives (Some number) = tt

mode_gives : (o : Option ℕ) → Gives (option_map commands.Mode o)
mode_gives None = tt
mode_gives (Some place) = tt

push_gives : (o : Option ℕ) → Gives (option_map commands.PushMode o)
push_gives None = tt
push_gives (Some place) = tt

-- each symbol of a name is a token type
abbrev pub AreLow : List TokenName → Type 0
AreLow types = All (λ token. token.symbol ≤ MOST_TYPES) types

-- the type of a name is one of these
named_gives : (types : List TokenName) (name : List ℕ) → AreLow types → Gives (option_map commands.Type (type_named types name))
named_gives [] name low = tt
named_gives (token ∷ types) name low = by (bytes_eq token.name name) (named_gives types name (λ k d less. low (suc k) d (omega arith)))
  where
    by : (b : Bool) → Gives (option_map commands.Type (type_named types name))
        → Gives (option_map commands.Type (option_map (λ (t : TokenName). t.symbol)
        (cond b (Some token) (find (λ t. bytes_eq t.name name) types))))
    by true rest = inl (low 0 token (omega arith))
    by false rest = rest

-- and its symbol may be that of `EOF`
symbol_gives : (types : List TokenName) (name : List ℕ) → AreLow types → Gives (option_map commands.Type (symbol_of types name))
symbol_gives types name low = by (bytes_eq name (codes "EOF"))
  where
    by : (b : Bool) → Gives (option_map commands.Type (cond b (Some eof) (type_named types name)))
    by true = inr refl
    by false = named_gives types name low

-- no command without an argument gives a type
bare_gives : (name : List ℕ) → Gives (bare_command name)
bare_gives name = by (bytes_eq name (codes "skip")) (bytes_eq name (codes "more")) (bytes_eq name (codes "popMode"))
  where
    by : (skip more pop : Bool) → Gives (cond skip (Some commands.Skip)
        (cond more (Some commands.More) (cond pop (Some commands.PopMode) None)))
    by true more pop = tt
    by false true pop = tt
    by false false true = tt
    by false false false = tt

module _ (tables : CommandTables) (low : AreLow tables.types) where
  -- what a command does with a name, and what any does
  name_gives : (name argument : List ℕ) → Gives (named_command tables name argument)
  name_gives name argument =
      let mode : Option ℕ = first_place tables.modes argument in
      let pushes : Option LexerCommand = cond (bytes_eq name (codes "pushMode")) (option_map commands.PushMode mode) None in
      let changes : Option LexerCommand = cond (bytes_eq name (codes "mode")) (option_map commands.Mode mode) pushes in
      let sorts : Option LexerCommand = cond (bytes_eq name (codes "channel"))
      (option_map commands.Channel (first_place tables.channels argument)) changes in
      either_gives (bytes_eq name (codes "type")) (option_map commands.Type (symbol_of tables.types argument)) sorts
      (symbol_gives tables.types argument low)
      (either_gives (bytes_eq name (codes "channel")) (option_map commands.Channel (first_place tables.channels argument)) changes
      (channel_gives (first_place tables.channels argument))
      (either_gives (bytes_eq name (codes "mode")) (option_map commands.Mode mode) pushes (mode_gives mode)
      (either_gives (bytes_eq name (codes "pushMode")) (option_map commands.PushMode mode) None (push_gives mode) tt)))

  with_gives : (name : List ℕ) (argument : Option Argument) → Gives (command_with tables name argument)
  with_gives name None = bare_gives name
  with_gives name (Some (Name argument)) = name_gives name argument
  with_gives name (Some (Number digits)) = either_gives (bytes_eq name (codes "channel"))
      (option_map commands.Channel (number_of digits)) None (channel_gives (number_of digits)) tt

  -- what those of an alternative do
  commands_give : (written : List Command) → All GivesTokenType (filter_map (command_of tables) written)
  commands_give [] = All-nil GivesTokenType
  commands_give (command ∷ written) = by (command_of tables command) (with_gives command.name.text command.argument) (commands_give written)
    where
      by : (o : Option LexerCommand) → Gives o → All GivesTokenType (filter_map (command_of tables) written)
          → All GivesTokenType (cons_option o (filter_map (command_of tables) written))
      by None gives rest = rest
      by (Some made) gives rest = All-cons GivesTokenType made (filter_map (command_of tables) written) gives rest

  -- the commands of all alternatives of all rules give token types or `EOF`
  pub all_give : (rules : List (List (List Command))) → All (All (All GivesTokenType)) (map (map (filter_map (command_of tables))) rules)
  all_give rules =
      All-map (All (All GivesTokenType)) (map (filter_map (command_of tables))) rules
      (λ k d less. All-map (All GivesTokenType) (filter_map (command_of tables)) (slice_index_or rules k d)
      (λ j e within. commands_give (slice_index_or (slice_index_or rules k d) j e)))
