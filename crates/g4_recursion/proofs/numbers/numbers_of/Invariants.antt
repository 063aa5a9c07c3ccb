use Rattle.g4_recursion.proofs.Numbering.{AreNumbered}
use Rattle.g4_recursion.proofs.numbers.numbers_of.Given as goal

abbrev pub invariant-loop-number : goal.invariant-loop-number
invariant-loop-number l = AreNumbered l.rules l.number l.numbers
