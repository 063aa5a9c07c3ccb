-- The commands of lexer rules, and the faults of them.
use Rattle.std.specs.Prelude.{◌≡◌, ℕ, ◌+◌, ◌*◌, ◌-◌, List, [], ◌∷◌, Bool, true, false, ◌&&◌, ◌||◌, Option, Some, None, codes, nat_le}
use Rattle.std.specs.List.{flat_map}
use Rattle.std.specs.Str.{all_ascii_digits, bytes_eq}
use Rattle.g4_source.specs.declared.rule.Argument.{Argument}
use Rattle.g4_source.specs.declared.rule.Argument.TheVariants.{Name, Number}
use Rattle.g4_source.specs.declared.rule.Command.{Command}
use Rattle.g4_source.specs.declared.rule.Rule.{Rule}
use Rattle.g4_source.specs.declared.rule.Rule.TheVariants.{Parser, Lexer}
use Rattle.g4_checks.specs.declared.channels.TheConstants.{MOST_CHANNEL}

-- the commands of a rule in order
abbrev pub rule_commands : Rule → List Command
rule_commands (Parser rule) = []
rule_commands (Lexer rule) = flat_map (λ alternative. alternative.commands) rule.alternatives

-- the commands of rules in order
abbrev pub all_commands : List Rule → List Command
all_commands rules = flat_map rule_commands rules

-- the command of this name takes a mode
abbrev pub takes_mode : List ℕ → Bool
takes_mode name = bytes_eq name (codes "mode") || bytes_eq name (codes "pushMode")

-- there is a command of this name that takes such an argument, or none
abbrev pub is_command : List ℕ → Option Argument → Bool
is_command name None = bytes_eq name (codes "skip") || bytes_eq name (codes "more") || bytes_eq name (codes "popMode")
is_command name (Some (Name argument)) = bytes_eq name (codes "type") || bytes_eq name (codes "channel") || takes_mode name
is_command name (Some (Number argument)) = bytes_eq name (codes "channel")

-- the number that the digits are, after the digits of the number n
abbrev pub decimal_after : ℕ → List ℕ → ℕ
decimal_after n [] = n
decimal_after n (digit ∷ digits) = decimal_after (10 * n + (digit - 48)) digits

-- decimal digits, however many, of a number that a channel can have
abbrev pub is_channel_number : List ℕ → Bool
is_channel_number text = all_ascii_digits text && nat_le (decimal_after 0 text) MOST_CHANNEL

-- the argument is a channel: one of these names, or a number
abbrev pub is_channel : (List ℕ → Bool) → Argument → Bool
is_channel is_name (Name n) = is_name n
is_channel is_name (Number n) = is_channel_number n

-- an argument as it is written
abbrev pub argument_text : Argument → List ℕ
argument_text (Name n) = n
argument_text (Number n) = n

-- the command of this name with this argument takes a mode n, and there is none
abbrev pub ArgumentIsUnknownMode : (List ℕ → Bool) → List ℕ → Option Argument → List ℕ → Type 0
ArgumentIsUnknownMode is_mode name None n = ⊥
ArgumentIsUnknownMode is_mode name (Some (Name argument)) n = (n ≡ argument) × (takes_mode name ≡ true) × (is_mode n ≡ false)
ArgumentIsUnknownMode is_mode name (Some (Number argument)) n = ⊥

abbrev pub IsUnknownMode : (List ℕ → Bool) → Command → List ℕ → Type 0
IsUnknownMode is_mode command n = ArgumentIsUnknownMode is_mode command.name.text command.argument n

-- there is no command of the name n with such an argument, or none
abbrev pub IsUnknownCommand : Command → List ℕ → Type 0
IsUnknownCommand command n = (n ≡ command.name.text) × (is_command command.name.text command.argument ≡ false)

-- the command of this name with this argument takes a channel n, and there is none
abbrev pub ArgumentIsUnknownChannel : (List ℕ → Bool) → List ℕ → Option Argument → List ℕ → Type 0
ArgumentIsUnknownChannel is_name name None n = ⊥
ArgumentIsUnknownChannel is_name name (Some argument) n = (n ≡ argument_text argument) × (bytes_eq name (codes "channel") ≡ true)
    × (is_channel is_name argument ≡ false)

abbrev pub IsUnknownChannel : (List ℕ → Bool) → Command → List ℕ → Type 0
IsUnknownChannel is_name command n = ArgumentIsUnknownChannel is_name command.name.text command.argument n
