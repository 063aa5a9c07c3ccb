use Rattle.g4_closure.specs.Returns.{AreMore}
use Rattle.g4_closure.proofs.returns.push_new.Given as goal

abbrev pub invariant-loop-group : goal.invariant-loop-group
invariant-loop-group l = AreMore l.groups l.initial.found.items l.found.items
