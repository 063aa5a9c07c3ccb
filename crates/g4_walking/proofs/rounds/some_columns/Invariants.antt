use Rattle.std.proofs.Common.{◌<◌, All}
use Rattle.g4_walking.proofs.rounds.some_columns.Given as goal

abbrev pub invariant-loop : goal.invariant-loop
invariant-loop l = All (λ s. s < 64) l.columns.items
