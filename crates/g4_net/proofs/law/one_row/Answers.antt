use Rattle.std.specs.Prelude.{Contains}
use Rattle.g4_net.proofs.Rows.{one_row, row_of_itself}
use Rattle.g4_net.proofs.law.one_row.Goals as goal

pub returns : goal.returns
returns c row other is rising = one_row (Contains other) row other is (row_of_itself other rising)
