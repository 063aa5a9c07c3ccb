use Rattle.std.proofs.Common.{◌≡◌, true}
use Rattle.g4_store.specs.Numbers.{has}
use Rattle.g4_walking.proofs.rounds.learn_and_walk.Given as goal

abbrev pub invariant-loop : goal.invariant-loop
invariant-loop g l = has 0 l.pass.0.holds ≡ true
