use Rattle.std.proofs.Common.{take, Contains}
use Rattle.g4_cycles.specs.Marks.{AreMarked}
use Rattle.g4_cycles.proofs.distances.mark.Given as goal

abbrev pub invariant-loop-node : goal.invariant-loop-node
invariant-loop-node l = AreMarked (Contains (take l.node-index l.nodes)) l.distance l.initial.distances l.initial.found.items
    l.distances l.found.items
