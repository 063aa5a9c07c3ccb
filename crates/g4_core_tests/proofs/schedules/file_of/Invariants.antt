use Rattle.g4_core_tests.specs.Numbers.{AreAlong}
use Rattle.g4_core_tests.proofs.schedules.file_of.Given as goal

abbrev pub invariant-loop-question : goal.invariant-loop-question
invariant-loop-question l = AreAlong l.paths.items
