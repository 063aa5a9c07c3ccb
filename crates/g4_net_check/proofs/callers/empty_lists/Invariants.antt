use Rattle.std.proofs.Common.{◌≡◌, [], length, ℕ}
use Rattle.g4_cycles.specs.Edges.{successors_of}
use Rattle.g4_net_check.proofs.callers.empty_lists.Given as goal

abbrev pub invariant-rules : goal.invariant-rules
invariant-rules l = (length l.lists.items ≡ l.counter) × ((k : ℕ) → successors_of l.lists.items k ≡ [])
