use Rattle.std.proofs.Common.{◌≡◌}
use Rattle.std.specs.List.{range_with_len}
use Rattle.g4_leftrec.proofs.rewriting.first_numbers.Given as goal

abbrev pub invariant-loop-before : goal.invariant-loop-before
invariant-loop-before l = l.numbers.items ≡ range_with_len 1 l.before
