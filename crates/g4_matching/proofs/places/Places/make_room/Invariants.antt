use Rattle.std.proofs.Common.{◌+◌, ◌-◌, length}
use Rattle.g4_matching.specs.Places.{Keeps}
use Rattle.g4_matching.proofs.places.Places.make_room.Given as goal

abbrev pub invariant-loop-self : goal.invariant-loop-self
invariant-loop-self l = Keeps l.fn.self l.self-inside.places.items

abbrev pub decreases-loop-self : goal.decreases-loop-self
decreases-loop-self l = l.number + 1 - length l.self-inside.places.items
