use Rattle.std.proofs.Common.{◌≡◌, ◌++◌, drop}
use Rattle.g4_chars.specs.Building.{joined_from}
use Rattle.g4_chars.proofs.building.joined_from.Given as goal

abbrev pub invariant-loop-next : goal.invariant-loop-next
invariant-loop-next l = l.done.items ++ joined_from l.current (drop l.next-index l.rest) ≡ joined_from l.fn.first l.rest
