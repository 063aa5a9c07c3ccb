use Rattle.std.proofs.Common.{take}
use Rattle.g4_cycles.specs.Marks.{IsLeast, HasDistance}
use Rattle.g4_cycles.proofs.cycle.least_distance.Given as goal

abbrev pub invariant-loop-node : goal.invariant-loop-node
invariant-loop-node l = IsLeast (HasDistance l.distances (take l.node-index l.nodes)) l.least
