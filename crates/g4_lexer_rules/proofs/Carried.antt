-- A known command is carried out.
use Rattle.std.proofs.Common.{◌≡◌, ℕ, suc, ◌+◌, List, [], ◌∷◌, Bool, true, false, cond, ◌||◌, Option, Some, None, option_map, codes, map, slice_index_or, All, refl, sym, ap, ◌∙◌, arith}
use Rattle.std.specs.List.{cons_option, filter_map, find, flat_map, list_any, position_from}
use Rattle.std.specs.Option.{is_some}
use Rattle.std.specs.Str.{bytes_eq}
use Rattle.std.proofs.lemmas.Iterator.Adapters.{position_from-zero}
use Rattle.g4_grammar.specs.declared.token_types.TokenName.{TokenName}
use Rattle.g4_lexer.specs.declared.command.LexerCommand.{LexerCommand}
use Rattle.g4_lexer.specs.declared.command.LexerCommand.TheVariants as commands
use Rattle.g4_names.specs.Places.{first_place}
use Rattle.g4_checks.specs.Commands.{ArgumentIsUnknownChannel, ArgumentIsUnknownMode, decimal_after, is_channel_number, is_command}
use Rattle.g4_checks.specs.Names.{channel_names, declared_channels, is_one_of, mode_names}
use Rattle.g4_checks.proofs.Sets.{bytes_eq-sym}
use Rattle.g4_source.specs.declared.rule.Argument.{Argument}
use Rattle.g4_source.specs.declared.rule.Argument.TheVariants.{Name, Number}
use Rattle.g4_source.specs.declared.rule.Command.{Command}
use Rattle.g4_source.specs.declared.source.Source.{Source}
use Rattle.g4_tokens.specs.Symbols.{eof}
use Rattle.g4_lexer_rules.specs.Commands.{command_of, command_with, symbol_of, type_named}
use Rattle.g4_lexer_rules.specs.Known.{ArgumentIsUnknownType, IsKnown, is_token_name}
use Rattle.g4_lexer_rules.specs.Tables.{all_channels, channels_of, modes_of, tables_of}
use Rattle.g4_lexer_rules.proofs.Once.{once_have}

-- what is not false
not_false : (b : Bool) → (b ≡ false → ⊥) → b ≡ true
not_false true other = refl
not_false false other = absurd (other refl)

-- a name that is there has a place
is_some-position_from : (p : List ℕ → Bool) (i : ℕ) (names : List (List ℕ)) → is_some (position_from p i names) ≡ list_any p names
is_some-position_from p i [] = refl
is_some-position_from p i (name ∷ names) = by (p name) (is_some-position_from p (i + 1) names)
  where
    by : (b : Bool) → is_some (position_from p (i + 1) names) ≡ list_any p names
        → is_some (cond b (Some i) (position_from p (i + 1) names)) ≡ (b || list_any p names)
    by true rest = refl
    by false rest = rest

-- it does not matter which of two texts is asked for
either_order : (names : List (List ℕ)) (name : List ℕ) → list_any (λ other. bytes_eq other name) names ≡ is_one_of names name
either_order [] name = refl
either_order (other ∷ names) name = ap (λ (b : Bool). b || list_any (λ o. bytes_eq o name) names) (bytes_eq-sym other name)
    ∙ ap (λ (b : Bool). bytes_eq name other || b) (either_order names name)

-- so the first place is there where the name is
has_place : (names : List (List ℕ)) (name : List ℕ) → is_some (first_place names name) ≡ is_one_of names name
has_place names name =
    let test : List ℕ → Bool = λ (other : List ℕ). bytes_eq other name in
    ap is_some (position_from-zero test names) ∙ (is_some-position_from test 0 names ∙ either_order names name)

-- a channel that is known has a place among those that have numbers
channel_known : (source : Source) (name : List ℕ) → is_one_of (channel_names source) name ≡ is_one_of (channels_of source) name
channel_known source name =
    swapped (bytes_eq name (codes "HIDDEN")) (bytes_eq name (codes "DEFAULT_TOKEN_CHANNEL"))
    (is_one_of (flat_map declared_channels source.prequels) name) ∙ sym (once_have (all_channels source) name)
  where
    swapped : (a b c : Bool) → (a || (b || c)) ≡ (b || (a || c))
    swapped true true c = refl
    swapped true false c = refl
    swapped false true c = refl
    swapped false false c = refl

-- a name of the types has a symbol
has_type : (types : List TokenName) (name : List ℕ) → is_some (type_named types name) ≡ list_any (λ token. bytes_eq token.name name) types
has_type [] name = refl
has_type (token ∷ types) name = by (bytes_eq token.name name) (has_type types name)
  where
    by : (b : Bool) → is_some (type_named types name) ≡ list_any (λ t. bytes_eq t.name name) types
        → is_some (option_map (λ (t : TokenName). t.symbol) (cond b (Some token) (find (λ t. bytes_eq t.name name) types)))
        ≡ (b || list_any (λ t. bytes_eq t.name name) types)
    by true rest = refl
    by false rest = rest

-- and `EOF` has one too
has_symbol : (types : List TokenName) (name : List ℕ) → is_some (symbol_of types name) ≡ is_token_name types name
has_symbol types name = by (bytes_eq name (codes "EOF"))
  where
    by : (b : Bool) → is_some (cond b (Some eof) (type_named types name)) ≡ (b || list_any (λ t. bytes_eq t.name name) types)
    by true = refl
    by false = has_type types name

-- a number makes a command
numbered : (F : ℕ → LexerCommand) (o : Option ℕ) → is_some o ≡ true → is_some (option_map F o) ≡ true
numbered F None there = there
numbered F (Some n) there = refl

-- one of three commands without an argument
one_of_three : (skip more pop : Bool) → ((skip || more) || pop) ≡ true
    → is_some (cond skip (Some commands.Skip) (cond more (Some commands.More) (cond pop (Some commands.PopMode) None))) ≡ true
one_of_three true more pop one = refl
one_of_three false true pop one = refl
one_of_three false false true one = refl
one_of_three false false false one = one

-- one of four that take a name, of what is there
one_of_four : (type channel mode push : Bool) (symbol number place : Option ℕ) → ((type || channel) || (mode || push)) ≡ true
    → (type ≡ true → is_some symbol ≡ true) → (channel ≡ true → is_some number ≡ true) → ((mode || push) ≡ true → is_some place ≡ true) →
    is_some (cond type (option_map commands.Type symbol)
    (cond channel (option_map commands.Channel number)
    (cond mode (option_map commands.Mode place) (cond push (option_map commands.PushMode place) None)))) ≡ true
one_of_four true channel mode push symbol number place one a b c = numbered commands.Type symbol (a refl)
one_of_four false true mode push symbol number place one a b c = numbered commands.Channel number (b refl)
one_of_four false false true push symbol number place one a b c = numbered commands.Mode place (c refl)
one_of_four false false false true symbol number place one a b c = numbered commands.PushMode place (c refl)
one_of_four false false false false symbol number place one a b c = one

-- a channel by its number
by_number : (channel fits : Bool) (number : ℕ) → channel ≡ true → fits ≡ true
    → is_some (cond channel (option_map commands.Channel (cond fits (Some number) None)) None) ≡ true
by_number true true number is small = refl
by_number true false number is small = small
by_number false fits number is small = is

module _ (source : Source) (types : List TokenName) (name : List ℕ) where
  -- each kind of argument
  with_argument : (argument : Option Argument) → is_command name argument ≡ true
      → ((n : List ℕ) → ArgumentIsUnknownMode (is_one_of (mode_names source)) name argument n → ⊥) →
      ((n : List ℕ) → ArgumentIsUnknownChannel (is_one_of (channel_names source)) name argument n → ⊥)
      → ((n : List ℕ) → ArgumentIsUnknownType types name argument n → ⊥)
      → is_some (command_with (tables_of source types) name argument) ≡ true
  with_argument None is mode channel type = one_of_three (bytes_eq name (codes "skip")) (bytes_eq name (codes "more"))
      (bytes_eq name (codes "popMode")) is
  with_argument (Some (Name argument)) is mode channel type =
      one_of_four (bytes_eq name (codes "type")) (bytes_eq name (codes "channel")) (bytes_eq name (codes "mode"))
      (bytes_eq name (codes "pushMode")) (symbol_of types argument) (first_place (channels_of source) argument)
      (first_place (modes_of source) argument) is
      (λ takes. has_symbol types argument ∙ not_false (is_token_name types argument) (λ absent. type argument (refl, takes, absent)))
      (λ takes. has_place (channels_of source) argument
      ∙ (sym (channel_known source argument) ∙ not_false (is_one_of (channel_names source) argument)
      (λ absent. channel argument (refl, takes, absent))))
      (λ takes. has_place (modes_of source) argument
      ∙ (once_have (mode_names source) argument
      ∙ not_false (is_one_of (mode_names source) argument) (λ absent. mode argument (refl, takes, absent))))
  with_argument (Some (Number digits)) is mode channel type =
      by_number (bytes_eq name (codes "channel")) (is_channel_number digits) (decimal_after 0 digits) is
      (not_false (is_channel_number digits) (λ large. channel digits (refl, is, large)))

-- so a known command is carried out
pub carried_out : (source : Source) (types : List TokenName) (command : Command) → IsKnown source types command
    → is_some (command_of (tables_of source types) command) ≡ true
carried_out source types command known =
    with_argument source types command.name.text command.argument
    (not_false (is_command command.name.text command.argument) (λ other. known.known command.name.text (refl, other))) known.mode
    known.channel known.type

-- where each item gives something, what is picked is all
picked_all : {X Y : Type 0} (f : X → Option Y) (xs : List X) → All (λ x. is_some (f x) ≡ true) xs → map Some (filter_map f xs) ≡ map f xs
picked_all {X} {Y} f [] gives = refl
picked_all {X} {Y} f (x ∷ xs) gives = by (f x) (gives 0 x (omega arith)) (picked_all f xs (λ k d less. gives (suc k) d (omega arith)))
  where
    by : (o : Option Y) → is_some o ≡ true → map Some (filter_map f xs) ≡ map f xs
        → map Some (cons_option o (filter_map f xs)) ≡ o ∷ map f xs
    by None some rest = cc
    by (Some y) some rest = ap (λ (ys : List (Option Y)). Some y ∷ ys) rest

-- and so are all commands of an alternative
pub all_carried_out : (source : Source) (types : List TokenName) (commands : List Command) → All (IsKnown source types) commands
    → map Some (filter_map (command_of (tables_of source types)) commands) ≡ map (command_of (tables_of source types)) commands
all_carried_out source types commands known =
    picked_all (command_of (tables_of source types)) commands
    (λ k d less. carried_out source types (slice_index_or commands k d) (known k d less))
