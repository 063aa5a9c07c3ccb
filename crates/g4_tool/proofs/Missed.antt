-- Where a command line stops before any file is parsed, the count of misses has not fallen.
use Rattle.std.proofs.Common.{◌≤◌, ℕ, arith}
use Rattle.g4_load.specs.Counting.{StopMisses}
use Rattle.g4_load.specs.declared.stop.Stop.{Stop}
use Rattle.g4_load.specs.declared.stop.Stop.TheVariants as stops

pub no_fewer : (usage : Type 0) (before now : ℕ) (stop : Stop) → StopMisses usage before now stop → before ≤ now
no_fewer usage before now stops.Usage h = h.1
no_fewer usage before now (stops.Absent name) h = omega (arith, h.0)
no_fewer usage before now (stops.TooLarge name size) h = omega (arith, h.0)
no_fewer usage before now (stops.Fault name fault) h = h
