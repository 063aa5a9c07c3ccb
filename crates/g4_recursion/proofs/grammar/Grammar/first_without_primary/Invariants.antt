use Rattle.g4_recursion.proofs.Searching.{NoneBelow}
use Rattle.g4_recursion.specs.Checking.{LacksPrimary}
use Rattle.g4_recursion.specs.Grammars.{rules_in}
use Rattle.g4_recursion.proofs.grammar.Grammar.first_without_primary.Given as goal

abbrev pub invariant-loop-rule : goal.invariant-loop-rule
invariant-loop-rule l = NoneBelow (LacksPrimary (rules_in l.self)) l.rule
