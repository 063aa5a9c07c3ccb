use Rattle.std.proofs.Common.{take}
use Rattle.g4_closure.specs.Framing.{AreHeld}
use Rattle.g4_closure.proofs.framed.held_groups.Given as goal

abbrev pub invariant-loop-group : goal.invariant-loop-group
invariant-loop-group l = AreHeld l.net l.set (take l.group-index l.groups) l.found.items
