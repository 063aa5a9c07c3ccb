-- What each of some rules derives.
use Rattle.std.specs.Prelude.{◌≡◌, ℕ, List, Some, slice_get}
use Rattle.g4_source.specs.Elements.{Alternatives}
use Rattle.g4_grammar.specs.Derives.{DerivesOne}
use Rattle.g4_grammar.specs.StepRules.{StepRule, by_number}
use Rattle.g4_grammar.specs.Steps.{CallsRule, ReadsSymbols}
use Rattle.g4_grammar.specs.declared.step.Step.{Step}

-- the rule of this number, which counts from 1, derives the word by these rules; levels are ignored
abbrev pub RuleDerives : List StepRule → ℕ → List ℕ → Type 0
RuleDerives rules k word = (xs : Alternatives (Step (List ℕ))) × (slice_get (by_number rules) k ≡ Some xs) ×
    DerivesOne ReadsSymbols CallsRule (by_number rules) xs word
