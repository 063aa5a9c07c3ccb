-- Lexer rules without non-greedy parts, as they are written.
use Rattle.std.specs.Prelude.{◌≡◌, ◌⊎◌, ℕ, List, true, Some, slice_get}
use Rattle.g4_source.specs.declared.element.Repeat.{Repeat}
use Rattle.g4_source.specs.declared.element.Repeat.TheVariants.{Once, Optional, Star, Plus}
use Rattle.g4_source.specs.Elements.{Element, atom, block, Elements, empty, then, Alternatives, none, or}
use Rattle.g4_source.specs.declared.rule.LexerRule.{LexerRule}
use Rattle.g4_source.specs.Rules.{lexer_alternatives_of}
use Rattle.g4_grammar.specs.LeftCalls.{ReachesBy, SomeHasCall}
use Rattle.g4_lexer_rules.specs.Lexable.{CallsNamed}
use Rattle.g4_lexer_rules.specs.NetworkRules.{names_of}

-- the sign, if there is one, is greedy: no `?` follows it
abbrev pub SignIsGreedy : Repeat → Type 0
SignIsGreedy Once = Unit {0}
SignIsGreedy (Optional sign) = sign.greedy ≡ true
SignIsGreedy (Star sign) = sign.greedy ≡ true
SignIsGreedy (Plus sign) = sign.greedy ≡ true

abbrev mutual
  -- each sign of the element is greedy
  pub IsGreedyElement : {A : Type 0} → Element A → Type 0
  IsGreedyElement (atom a) = Unit {0}
  IsGreedyElement (block label repeat xs) = SignIsGreedy repeat × EachIsGreedy xs

  -- each sign of the elements
  pub AreGreedy : {A : Type 0} → Elements A → Type 0
  AreGreedy empty = Unit {0}
  AreGreedy (then x xs) = IsGreedyElement x × AreGreedy xs

  -- each sign of the alternatives
  pub EachIsGreedy : {A : Type 0} → Alternatives A → Type 0
  EachIsGreedy none = Unit {0}
  EachIsGreedy (or x xs) = AreGreedy x × EachIsGreedy xs

-- rule k calls rule j
abbrev pub RuleCalls : List LexerRule → ℕ → ℕ → Type 0
RuleCalls rules k j = (rule : LexerRule) × (slice_get rules k ≡ Some rule)
    × SomeHasCall (CallsNamed (names_of rules)) (lexer_alternatives_of rule) j

-- rule k is rule r, or one that r reaches by calls
abbrev pub IsPartOf : List LexerRule → ℕ → ℕ → Type 0
IsPartOf rules r k = (k ≡ r) ⊎ ReachesBy (RuleCalls rules) r k

-- rule r has no non-greedy part: no sign in it, or in a rule that it reaches by calls, is non-greedy
abbrev pub IsWrittenGreedy : List LexerRule → ℕ → Type 0
IsWrittenGreedy rules r = (k : ℕ) (rule : LexerRule) → IsPartOf rules r k → slice_get rules k ≡ Some rule
    → EachIsGreedy (lexer_alternatives_of rule)
