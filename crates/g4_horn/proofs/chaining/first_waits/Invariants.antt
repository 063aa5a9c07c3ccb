use Rattle.std.proofs.Common.{ℕ, ◌<◌}
use Rattle.std.specs.List.{All}
use Rattle.g4_horn.specs.Chaining.{IsWait, IsAmong}
use Rattle.g4_horn.proofs.chaining.first_waits.Given as goal

abbrev pub invariant-loop-clause : goal.invariant-loop-clause
invariant-loop-clause l = record {
  are_waits : All (IsWait l.clauses) l.waits.items;
  each : (k : ℕ) → k < l.clause → IsAmong l.waits.items k;
}
