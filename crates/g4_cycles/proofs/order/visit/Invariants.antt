use Rattle.std.proofs.Common.{◌+◌, ◌*◌, length, count_by, not}
use Rattle.g4_cycles.proofs.order.visit.Given as goal

abbrev pub decreases-places : goal.decreases-places
decreases-places l = 2 * count_by not l.visited + length l.stack.items
