use Rattle.g4_configs.specs.Configs.{Holds}
use Rattle.g4_closure.specs.Filling.{IsGrown}
use Rattle.g4_closure.specs.Steps.{ReachedFrom}
use Rattle.g4_closure.proofs.filling.follow_all.Given as goal

abbrev pub invariant-loop : goal.invariant-loop
invariant-loop l = IsGrown l.initial.set (ReachedFrom l.net (Holds l.initial.set)) l.set
