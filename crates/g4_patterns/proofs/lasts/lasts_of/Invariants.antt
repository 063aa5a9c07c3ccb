use Rattle.std.proofs.Common.{◌≡◌, drop}
use Rattle.g4_patterns.specs.Lasts.{read}
use Rattle.g4_patterns.proofs.Read.{kept}
use Rattle.g4_patterns.proofs.lasts.lasts_of.Given as goal

abbrev pub invariant-loop-place : goal.invariant-loop-place
invariant-loop-place l = kept l.open_ends.items l.lasts.items ≡ read l.place (drop l.place l.items)
