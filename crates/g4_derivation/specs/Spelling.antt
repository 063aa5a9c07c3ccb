-- What the network of rules spells, in terms of what the rules derive.
use Rattle.std.specs.Prelude.{◌≡◌, ◌↔◌, ℕ, List, [], Some, slice_get}
use Rattle.g4_source.specs.Elements.{Alternatives}
use Rattle.g4_grammar.specs.Derives.{DerivesOne}
use Rattle.g4_grammar.specs.StepRules.{StepRule}
use Rattle.g4_grammar.specs.Steps.{CallsRule, ReadsSymbols, added_rule}
use Rattle.g4_grammar.specs.declared.step.Step.{Step}
use Rattle.g4_layout.specs.Rules.{rule_number, rules_of}
use Rattle.g4_net.specs.Network.{ParserNetwork, start_of}
use Rattle.g4_net.specs.Spelling.{SpellsWord}

-- From where each of these rules starts, the network spells exactly the words that the rule derives; levels are ignored.
abbrev pub SpellsRules : List (Alternatives (Step (List ℕ))) → ParserNetwork → Type 0
SpellsRules rules net = (k : ℕ) (xs : Alternatives (Step (List ℕ))) → slice_get rules k ≡ Some xs →
    (w : List ℕ) → SpellsWord net (start_of k) w [] ↔ DerivesOne ReadsSymbols CallsRule rules xs w

-- The rules derive the token list from the start rule: the added rule over them does, whose loop takes the symbols of the set.
abbrev pub DerivesFrom : List ℕ → List StepRule → List ℕ → List ℕ → Type 0
DerivesFrom set rules start word = DerivesOne ReadsSymbols CallsRule (rules_of set rules start)
    (added_rule set (rule_number rules start)) word
