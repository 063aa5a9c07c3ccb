-- The words of a rule without its own left recursion: one of a primary, and then operators.
use Rattle.std.specs.Prelude.{◌≡◌, ℕ, List, ◌++◌, All, Some, slice_get}
use Rattle.std.specs.List.{concat}
use Rattle.g4_source.specs.Elements.{Elements, Alternatives}
use Rattle.g4_grammar.specs.Derives.{DerivesAll}
use Rattle.g4_grammar.specs.OwnCalls.{IsOneOf, IsOperator}
use Rattle.g4_grammar.specs.StepRules.{StepRule, by_number}
use Rattle.g4_grammar.specs.Steps.{CallsRule, ReadsSymbols}
use Rattle.g4_grammar.specs.declared.step.Step.{Step}

module _ (rules : List (Alternatives (Step (List ℕ)))) (k : ℕ) (xs : Alternatives (Step (List ℕ))) where
  -- an alternative of rule k that does not begin with the rule itself derives the word
  abbrev pub IsOfPrimary : List ℕ → Type 0
  IsOfPrimary w = (x : Elements (Step (List ℕ))) × IsOneOf xs x × ((rest : Elements (Step (List ℕ))) → IsOperator CallsRule k x rest → ⊥) ×
      DerivesAll ReadsSymbols CallsRule rules x w

  -- what follows the rule itself, in an alternative that begins with it, derives the word
  abbrev pub IsOfOperator : List ℕ → Type 0
  IsOfOperator w = (x rest : Elements (Step (List ℕ))) × IsOneOf xs x × IsOperator CallsRule k x rest ×
      DerivesAll ReadsSymbols CallsRule rules rest w

  -- The word is one of a primary, and then words of operators in order, any number of them.
  pub record IsNest (w : List ℕ) : Type 0 where
    pub first : List ℕ
    pub turns : List (List ℕ)
    pub primary : IsOfPrimary first
    pub operators : All IsOfOperator turns
    pub is : w ≡ first ++ concat turns

-- rule k has such a word, by these rules
abbrev pub HasNest : List StepRule → ℕ → List ℕ → Type 0
HasNest rules k w = (xs : Alternatives (Step (List ℕ))) × (slice_get (by_number rules) k ≡ Some xs) × IsNest (by_number rules) k xs w
