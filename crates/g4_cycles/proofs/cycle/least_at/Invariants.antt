use Rattle.std.proofs.Common.{take}
use Rattle.g4_cycles.specs.Marks.{IsLeast, IsAtDistance}
use Rattle.g4_cycles.proofs.cycle.least_at.Given as goal

abbrev pub invariant-loop-node : goal.invariant-loop-node
invariant-loop-node l = IsLeast (IsAtDistance l.distances (take l.node-index l.nodes) l.wanted) l.least
