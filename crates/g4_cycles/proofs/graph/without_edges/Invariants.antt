use Rattle.std.proofs.Common.{◌≡◌, [], length, ℕ}
use Rattle.g4_cycles.specs.Edges.{successors_of}
use Rattle.g4_cycles.proofs.graph.without_edges.Given as goal

abbrev pub invariant-nodes : goal.invariant-nodes
invariant-nodes l = (length l.graph.items ≡ l.counter) × ((k : ℕ) → successors_of l.graph.items k ≡ [])
