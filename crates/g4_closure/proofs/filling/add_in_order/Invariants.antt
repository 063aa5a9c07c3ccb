use Rattle.g4_configs.specs.Groups.{InSome}
use Rattle.g4_closure.specs.Filling.{IsGrown}
use Rattle.g4_closure.proofs.filling.add_in_order.Given as goal

abbrev pub invariant-loop-item : goal.invariant-loop-item
invariant-loop-item l = IsGrown l.initial.set (InSome l.initial.set.graph l.groups) l.set
