-- The numbers of rules by their names.
use Rattle.std.specs.Prelude.{◌≡◌, ℕ, List, Option}
use Rattle.std.specs.List.{position}
use Rattle.g4_names.specs.Places.{place_in}
use Rattle.g4_source.specs.declared.rule.Rule.{Rule}
use Rattle.g4_source.specs.declared.kind.RuleKind.{RuleKind}
use Rattle.g4_source.specs.declared.kind.RuleKind.TheVariants.{Parser, Lexer}
use Rattle.g4_grammar.specs.Written.{is_rule_of}
use Rattle.g4_recursion.specs.declared.numbers.Numbers.{Numbers}

-- the number of a name of this kind
abbrev pub number_in : Numbers → RuleKind → List ℕ → Option ℕ
number_in numbers Parser name = place_in numbers.parsers name
number_in numbers Lexer name = place_in numbers.lexers name

-- the number of the first rule of this kind and name
abbrev pub rule_number : List Rule → RuleKind → List ℕ → Option ℕ
rule_number rules kind name = position (is_rule_of kind name) rules

-- each name of either kind has the number of the first rule of that kind and name
abbrev pub AreNumbers : List Rule → Numbers → Type 0
AreNumbers rules numbers = (kind : RuleKind) (name : List ℕ) → number_in numbers kind name ≡ rule_number rules kind name
