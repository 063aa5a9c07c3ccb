use Rattle.std.proofs.Common.{length}
use Rattle.g4_cycles.specs.Edges.{Backward}
use Rattle.g4_cycles.proofs.Settling.{IsSettled}
use Rattle.g4_cycles.proofs.acyclic.acyclic_nodes.Given as goal

abbrev pub invariant-loop-node : goal.invariant-loop-node
invariant-loop-node l = IsSettled (Backward l.reversed) (length l.graph) l.found.items l.acyclic.items
