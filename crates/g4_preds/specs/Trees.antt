-- The trees of predicates.
use Rattle.std.specs.Prelude.{ℕ, List, [], ◌∷◌, ◌++◌}
use Rattle.g4_preds.specs.declared.node.Test.{Test}
use Rattle.g4_preds.specs.declared.node.Test.TheVariants.{Constant, Flag, Inside, TextIs}

-- a predicate: a test, `!`, `&&` or `||`
pub data Tree : Type 0 where
  test : Test → Tree
  negation : Tree → Tree
  conjunction : Tree → Tree → Tree
  disjunction : Tree → Tree → Tree

-- the rule that a test names
abbrev pub rule_of : Test → List (List ℕ)
rule_of (Constant value) = []
rule_of (Flag name) = []
rule_of (Inside rule) = rule ∷ []
rule_of (TextIs nth text) = []

-- the rules that a predicate names, in the order of its text
abbrev pub rules_of : Tree → List (List ℕ)
rules_of (test t) = rule_of t
rules_of (negation t) = rules_of t
rules_of (conjunction a b) = rules_of a ++ rules_of b
rules_of (disjunction a b) = rules_of a ++ rules_of b
