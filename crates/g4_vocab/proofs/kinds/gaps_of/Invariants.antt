use Rattle.std.proofs.Common.{◌≡◌, ◌-◌, filter, not}
use Rattle.std.specs.List.{range_with_len}
use Rattle.g4_vocab.specs.Types.{is_type}
use Rattle.g4_vocab.proofs.kinds.gaps_of.Given as goal

abbrev pub invariant-loop-number : goal.invariant-loop-number
invariant-loop-number l = l.gaps.items ≡ filter (λ n. not (is_type l.types n)) (range_with_len 1 (l.number-counter - 1))
