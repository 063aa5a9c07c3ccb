use Rattle.g4_core_tests.specs.Numbers.{FilesAreAlong}
use Rattle.g4_core_tests.proofs.schedules.files_of.Given as goal

abbrev pub invariant-loop-file : goal.invariant-loop-file
invariant-loop-file l = FilesAreAlong l.files.items
