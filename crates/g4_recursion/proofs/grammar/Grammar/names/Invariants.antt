use Rattle.std.proofs.Common.{take}
use Rattle.g4_recursion.specs.Checking.{AreNamed}
use Rattle.g4_recursion.specs.Grammars.{rules_in}
use Rattle.g4_recursion.proofs.grammar.Grammar.names.Given as goal

abbrev pub invariant-loop-rule : goal.invariant-loop-rule
invariant-loop-rule l = AreNamed (rules_in l.self) (take l.rule-index l.rules) l.all.items
