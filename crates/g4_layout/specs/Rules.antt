-- The rules of a parser's network.
use Rattle.std.specs.Prelude.{ℕ, ◌+◌, ◌*◌, List, ◌∷◌, length, map, sum_by, Bool}
use Rattle.std.specs.List.{list_any, position_or_len}
use Rattle.std.specs.Str.{bytes_eq}
use Rattle.g4_source.specs.Elements.{Alternatives}
use Rattle.g4_source.specs.Rules.{alternatives_of}
use Rattle.g4_grammar.specs.declared.step.Step.{Step}
use Rattle.g4_grammar.specs.Steps.{added_rule}
use Rattle.g4_grammar.specs.StepRules.{StepRule}
use Rattle.g4_layout.specs.Size.{states_of_rule}

-- one of the rules has the name
abbrev pub has_parser_rule : List StepRule → List ℕ → Bool
has_parser_rule rules name = list_any (λ rule. bytes_eq rule.name name) rules

-- the number of the rule of this name; the added rule is 0
abbrev pub rule_number : List StepRule → List ℕ → ℕ
rule_number rules name = position_or_len (λ rule. bytes_eq rule.name name) rules + 1

-- the alternatives of every rule of the network, the added rule first, whose loop takes the symbols of the set
abbrev pub rules_of : List ℕ → List StepRule → List ℕ → List (Alternatives (Step (List ℕ)))
rules_of set rules start = added_rule set (rule_number rules start) ∷ map alternatives_of rules

-- how many states the network has: two a rule, five more in the added rule, and those of each rule's alternatives
abbrev pub state_count : List StepRule → ℕ
state_count rules = 2 * length rules + 7 + sum_by (λ rule. states_of_rule (alternatives_of rule)) rules
