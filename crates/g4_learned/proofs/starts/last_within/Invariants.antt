use Rattle.std.proofs.Common.{◌≤◌, ◌<◌, ◌-◌, length}
use Rattle.g4_learned.specs.Tables.{guard_of}
use Rattle.g4_learned.proofs.starts.last_within.Given as goal

abbrev pub invariant-loop-end : goal.invariant-loop-end
invariant-loop-end l = (l.low ≤ l.at) × (l.at < l.end) × (l.end ≤ l.high) × (l.high ≤ length l.keys) × (guard_of l.keys l.at ≤ l.condition)
    × (l.end < l.high → l.condition < guard_of l.keys l.end)

abbrev pub decreases-loop-end : goal.decreases-loop-end
decreases-loop-end l = l.end - l.at
