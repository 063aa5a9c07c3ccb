use Rattle.std.proofs.Common.{arith}
use Rattle.g4_core_tests.proofs.Questions.{questions}
use Rattle.g4_core_tests.proofs.schedules.run.Goals as goal

pub open-requires-clause-asked : goal.open-requires-clause-asked
open-requires-clause-asked c = questions (record { rows = c.args.rows; columns = 10; starts = 8; net = 0 }) (omega arith) (omega arith)
    c.in_ok-found.found c.in_ok-found.ensures
