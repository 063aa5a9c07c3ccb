use Rattle.std.proofs.Common.{◌<◌}
use Rattle.g4_walking.proofs.table.Table.go_along.Given as goal

abbrev pub invariant-loop-column : goal.invariant-loop-column
invariant-loop-column l = l.value < 1000
