use Rattle.std.proofs.Common.{sym, subst}
use Rattle.g4_core_tests.specs.Numbers.{AreAlong}
use Rattle.g4_core_tests.proofs.Questions.{along_more}
use Rattle.g4_core_tests.proofs.schedules.file_of.Goals as goal

pub loop-question-preserved : goal.loop-question-preserved
loop-question-preserved c = subst AreAlong (sym c.in_ok-push.ensures.items)
    (along_more c.loop-question.paths.items c.in_ok-path.path c.loop-question.invariant c.in_ok-path.ensures)
