use Rattle.std.proofs.Common.{take}
use Rattle.g4_cycles.specs.Edges.{AddsReversed}
use Rattle.g4_cycles.proofs.graph.add_reversed.Given as goal

abbrev pub invariant-loop-next : goal.invariant-loop-next
invariant-loop-next l = AddsReversed l.node (take l.next-index l.successors) l.initial.reversed l.reversed
