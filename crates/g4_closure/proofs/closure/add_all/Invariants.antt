use Rattle.std.proofs.Common.{take}
use Rattle.g4_closure.specs.Joined.{Joined}
use Rattle.g4_closure.proofs.closure.add_all.Given as goal

abbrev pub invariant-loop-group : goal.invariant-loop-group
invariant-loop-group l = Joined l.initial.set l.initial.work.items (take l.group-index l.groups) l.set l.work.items
