use Rattle.g4_learned.proofs.Starting.{HaveTests}
use Rattle.g4_learned.proofs.tests.all_tests.Given as goal

abbrev pub invariant-loop-number : goal.invariant-loop-number
invariant-loop-number l = HaveTests l.net l.number l.tests.items
