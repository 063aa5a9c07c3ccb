use Rattle.std.proofs.Common.{◌<◌, ℕ}
use Rattle.g4_cycles.specs.Cycles.{Reaches}
use Rattle.g4_cycles.specs.Edges.{EdgeOf}
use Rattle.g4_cycles.proofs.cycle.first_cycle.Given as goal

abbrev pub invariant-loop-node : goal.invariant-loop-node
invariant-loop-node l = (k : ℕ) → k < l.node → Reaches (EdgeOf l.successors) k k → ⊥
