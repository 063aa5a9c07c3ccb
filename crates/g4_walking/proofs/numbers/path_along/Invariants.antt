use Rattle.std.proofs.Common.{◌<◌}
use Rattle.g4_walking.specs.Numbers.{Leads, number}
use Rattle.g4_walking.proofs.numbers.path_along.Given as goal

abbrev pub invariant-loop-column : goal.invariant-loop-column
invariant-loop-column l = Leads l.net 64 (number 0) l.looked.items (number l.value) × (l.value < 1000)
