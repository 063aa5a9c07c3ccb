use Rattle.std.proofs.Common.{take}
use Rattle.g4_cycles.specs.Marks.{AreMarked, LeadsTo}
use Rattle.g4_cycles.proofs.distances.mark_before.Given as goal

abbrev pub invariant-loop-node : goal.invariant-loop-node
invariant-loop-node l = AreMarked (LeadsTo l.reversed (take l.node-index l.level)) l.distance l.initial.distances
    l.initial.found.items l.distances l.found.items
