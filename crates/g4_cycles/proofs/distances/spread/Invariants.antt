use Rattle.std.proofs.Common.{◌+◌, length}
use Rattle.g4_cycles.specs.Edges.{Backward}
use Rattle.g4_cycles.specs.Marks.{open_count}
use Rattle.g4_cycles.proofs.Spreading.{IsSpreading}
use Rattle.g4_cycles.proofs.distances.spread.Given as goal

abbrev pub invariant-levels : goal.invariant-levels
invariant-levels l = IsSpreading (Backward l.reversed) l.root l.fn.distances l.distances l.distance l.level.items

abbrev pub decreases-levels : goal.decreases-levels
decreases-levels l = open_count l.distances + length l.level.items
