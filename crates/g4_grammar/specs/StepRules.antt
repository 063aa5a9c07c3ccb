-- Parser rules whose atoms are steps, when they can be rewritten, and when a network that can be parsed with is made of them.
use Rattle.std.specs.Prelude.{◌≡◌, ◌≤◌, ℕ, List, ◌∷◌, length, map, All, Contains}
use Rattle.g4_tokens.specs.Symbols.{end_of_list}
use Rattle.g4_source.specs.Elements.{Alternatives, none, atoms_of_either}
use Rattle.g4_source.specs.declared.rule.ParserRule.{ParserRule}
use Rattle.g4_source.specs.Rules.{alternatives_of}
use Rattle.g4_source.specs.Blocks.{ParserRulesAreFull}
use Rattle.g4_grammar.specs.declared.step.Step.{Step}
use Rattle.g4_grammar.specs.declared.step.Step.TheVariants.{Edge, Call, Predicate, Level, Action, Empty}
use Rattle.g4_grammar.specs.Steps.{CallsRule, ReadsSymbols}
use Rattle.g4_grammar.specs.LeftCalls.{NoLeftCycle, SomeHasCall}
use Rattle.g4_grammar.specs.Loops.{NoEmptyLoop}
use Rattle.g4_grammar.specs.OwnCalls.{CanRun}

-- a parser rule whose atoms are steps, which take sets of symbols
abbrev pub StepRule : Type 0
StepRule = ParserRule (Step (List ℕ))

-- the alternatives of the rules by their numbers; those of the added rule, which is rule 0, are left out
abbrev pub by_number : List StepRule → List (Alternatives (Step (List ℕ)))
by_number rules = none ∷ map alternatives_of rules

-- a step that a rule has as it is written: it does not take END, and calls at level 0
abbrev pub IsPlain : Step (List ℕ) → Type 0
IsPlain (Edge set) = Contains set end_of_list → ⊥
IsPlain (Call rule level) = level ≡ 0
IsPlain (Predicate k) = Unit {0}
IsPlain (Level q) = ⊥
IsPlain Action = Unit {0}
IsPlain Empty = ⊥

-- a step that a rule has as it is laid: levels and empty steps come in when it is rewritten
abbrev pub IsPlainLaid : Step (List ℕ) → Type 0
IsPlainLaid (Edge set) = Contains set end_of_list → ⊥
IsPlainLaid (Call rule level) = Unit {0}
IsPlainLaid (Predicate k) = Unit {0}
IsPlainLaid (Level q) = Unit {0}
IsPlainLaid Action = Unit {0}
IsPlainLaid Empty = Unit {0}

-- the step is no predicate
abbrev pub IsNoPredicate : Step (List ℕ) → Type 0
IsNoPredicate (Edge set) = Unit {0}
IsNoPredicate (Call rule level) = Unit {0}
IsNoPredicate (Predicate k) = ⊥
IsNoPredicate (Level q) = Unit {0}
IsNoPredicate Action = Unit {0}
IsNoPredicate Empty = Unit {0}

-- each step of the rule is so
abbrev pub RuleIsPlain : StepRule → Type 0
RuleIsPlain rule = All IsPlain (atoms_of_either (alternatives_of rule))

abbrev pub RuleIsPlainLaid : StepRule → Type 0
RuleIsPlainLaid rule = All IsPlainLaid (atoms_of_either (alternatives_of rule))

-- no step of the rule is a predicate
abbrev pub RuleIsUnpredicated : StepRule → Type 0
RuleIsUnpredicated rule = All IsNoPredicate (atoms_of_either (alternatives_of rule))

-- no rule has a predicate
abbrev pub AreUnpredicated : List StepRule → Type 0
AreUnpredicated rules = All RuleIsUnpredicated rules

-- each call of a rule is of one of `count` rules, numbered from 1
abbrev pub CallsWithin : ℕ → StepRule → Type 0
CallsWithin count rule = (j : ℕ) → SomeHasCall CallsRule (alternatives_of rule) j → (1 ≤ j) × (j ≤ count)

-- What rewriting rules asks of them: their steps are plain, their blocks have alternatives, their calls are of rules among them, and
-- they can be run.
pub record CanBeRewritten (rules : List StepRule) : Type 0 where
  pub plain : All RuleIsPlain rules
  pub full : ParserRulesAreFull rules
  pub within : All (CallsWithin (length rules)) rules
  pub run : CanRun ReadsSymbols CallsRule CallsRule (by_number rules)

-- What laying rules in a network asks of them: their steps are plain, their blocks have alternatives, their calls are of rules
-- among them, no loop has a body that derives the empty word, and no rule reaches itself by left calls.
pub record CanBeLaid (rules : List StepRule) : Type 0 where
  pub plain : All RuleIsPlainLaid rules
  pub full : ParserRulesAreFull rules
  pub within : All (CallsWithin (length rules)) rules
  pub loops : NoEmptyLoop ReadsSymbols CallsRule (by_number rules)
  pub cycles : NoLeftCycle ReadsSymbols CallsRule (by_number rules)
