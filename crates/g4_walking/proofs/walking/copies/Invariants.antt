use Rattle.std.proofs.Common.{◌≡◌}
use Rattle.g4_walking.proofs.walking.copies.Given as goal

abbrev pub invariant-loop : goal.invariant-loop
invariant-loop g l = l.pass.0.holds ≡ l.initial.pass.0.holds
