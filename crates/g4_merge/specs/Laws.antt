-- What is said of merged rules.
use Rattle.std.specs.Prelude.{◌≡◌, ℕ, List, Some, slice_get}
use Rattle.g4_source.specs.Rules.{rule_name}
use Rattle.g4_source.specs.declared.rule.Rule.{Rule}
use Rattle.g4_source.specs.declared.source.Source.{Source}
use Rattle.g4_merge.specs.Merging.{merged_of}

-- the rules of a grammar with its imports
abbrev pub rules_of : Source → List Source → List Rule
rules_of main imports = (merged_of main imports).source.rules

-- no two of the rules have one name
abbrev pub NamesDiffer : List Rule → Type 0
NamesDiffer rules = (i j : ℕ) (a b : Rule) → slice_get rules i ≡ Some a → slice_get rules j ≡ Some b → rule_name a ≡ rule_name b → i ≡ j
