-- The commands that are known.
use Rattle.std.specs.Prelude.{◌≡◌, ℕ, List, Option, Some, None, Bool, true, false, ◌||◌, codes}
use Rattle.std.specs.List.{list_any}
use Rattle.std.specs.Str.{bytes_eq}
use Rattle.g4_grammar.specs.declared.token_types.TokenName.{TokenName}
use Rattle.g4_checks.specs.References.{TakesNoChannel, TakesNoMode}
use Rattle.g4_checks.specs.Commands.{IsUnknownCommand}
use Rattle.g4_source.specs.declared.rule.Argument.{Argument}
use Rattle.g4_source.specs.declared.rule.Argument.TheVariants.{Name, Number}
use Rattle.g4_source.specs.declared.rule.Command.{Command}
use Rattle.g4_source.specs.declared.source.Source.{Source}

-- the name is that of a token: `EOF`, or one of the types has it
abbrev pub is_token_name : List TokenName → List ℕ → Bool
is_token_name types name = bytes_eq name (codes "EOF") || list_any (λ token. bytes_eq token.name name) types

-- the command of this name with this argument takes a token type n, and there is none
abbrev pub ArgumentIsUnknownType : List TokenName → List ℕ → Option Argument → List ℕ → Type 0
ArgumentIsUnknownType types name None n = ⊥
ArgumentIsUnknownType types name (Some (Name argument)) n = (n ≡ argument) × (bytes_eq name (codes "type") ≡ true)
    × (is_token_name types n ≡ false)
ArgumentIsUnknownType types name (Some (Number argument)) n = ⊥

abbrev pub TakesNoType : List TokenName → Command → List ℕ → Type 0
TakesNoType types command n = ArgumentIsUnknownType types command.name.text command.argument n

-- there is such a command, and what it takes is there
pub record IsKnown (source : Source) (types : List TokenName) (command : Command) : Type 0 where
  pub known : (n : List ℕ) → IsUnknownCommand command n → ⊥
  pub mode : (n : List ℕ) → TakesNoMode source command n → ⊥
  pub channel : (n : List ℕ) → TakesNoChannel source command n → ⊥
  pub type : (n : List ℕ) → TakesNoType types command n → ⊥
