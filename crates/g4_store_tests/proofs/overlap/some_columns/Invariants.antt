use Rattle.std.proofs.Common.{◌<◌, All}
use Rattle.g4_store_tests.proofs.overlap.some_columns.Given as goal

abbrev pub invariant-loop : goal.invariant-loop
invariant-loop l = All (λ s. s < 64) l.columns.items
