use Rattle.std.proofs.Common.{length}
use Rattle.g4_productions.proofs.excluded.+joined.Given as goal

abbrev pub decreases-joined : goal.decreases-joined
decreases-joined l = length l.ranges.now
