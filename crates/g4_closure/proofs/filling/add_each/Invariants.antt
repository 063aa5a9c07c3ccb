use Rattle.g4_configs.specs.Groups.{InSome}
use Rattle.g4_closure.specs.Filling.{IsGrown}
use Rattle.g4_closure.proofs.filling.add_each.Given as goal

abbrev pub invariant-loop-group : goal.invariant-loop-group
invariant-loop-group l = IsGrown l.initial.set (InSome l.initial.set.graph l.groups) l.set
