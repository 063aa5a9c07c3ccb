use Rattle.std.proofs.Common.{sym, subst}
use Rattle.g4_core_tests.specs.Numbers.{FilesAreAlong}
use Rattle.g4_core_tests.proofs.Questions.{files_more}
use Rattle.g4_core_tests.proofs.schedules.files_of.Goals as goal

pub loop-file-preserved : goal.loop-file-preserved
loop-file-preserved c = subst FilesAreAlong (sym c.in_ok-push.ensures.items)
    (files_more c.loop-file.files.items c.in_ok-paths.paths c.loop-file.invariant c.in_ok-paths.ensures)
