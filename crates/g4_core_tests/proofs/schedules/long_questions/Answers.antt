use Rattle.std.proofs.Common.{arith}
use Rattle.g4_core_tests.proofs.Questions.{questions}
use Rattle.g4_core_tests.proofs.schedules.long_questions.Goals as goal

pub open-requires-clause-asked : goal.open-requires-clause-asked
open-requires-clause-asked g c = questions (record { rows = 500; columns = 10; starts = 8; net = 0 }) (omega arith) (omega arith)
    c.in_ok-files.files c.in_ok-files.ensures
