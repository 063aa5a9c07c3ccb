use Rattle.std.proofs.Common.{◌≡◌, ◌<◌, ◌%◌, ◌++◌, drop}
use Rattle.g4_core_tests.specs.Numbers.{looks}
use Rattle.g4_core_tests.proofs.numbers.path_along.Given as goal

abbrev pub invariant-loop-digit : goal.invariant-loop-digit
invariant-loop-digit l = (l.value < 1000)
    × (l.looked.items ++ looks l.value (drop l.digit-index l.digits) ≡ looks (l.start % 1000) l.digits)
