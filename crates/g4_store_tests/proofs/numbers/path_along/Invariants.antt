use Rattle.std.proofs.Common.{◌<◌}
use Rattle.g4_store_tests.specs.Numbers.{Leads, number}
use Rattle.g4_store_tests.proofs.numbers.path_along.Given as goal

abbrev pub invariant-loop-column : goal.invariant-loop-column
invariant-loop-column l = Leads l.net l.count l.content l.looked.items (number l.value) × (l.value < 1000003)
