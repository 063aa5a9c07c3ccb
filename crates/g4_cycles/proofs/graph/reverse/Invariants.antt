use Rattle.g4_cycles.proofs.EdgesOf.{IsReverseBelow}
use Rattle.g4_cycles.proofs.graph.reverse.Given as goal

abbrev pub invariant-loop-node : goal.invariant-loop-node
invariant-loop-node l = IsReverseBelow l.graph l.node l.reversed.items
