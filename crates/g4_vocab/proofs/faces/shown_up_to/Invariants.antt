use Rattle.std.proofs.Common.{◌≡◌, ◌-◌, map}
use Rattle.std.specs.List.{range_with_len}
use Rattle.g4_vocab.specs.Tables.{shown_at}
use Rattle.g4_vocab.proofs.faces.shown_up_to.Given as goal

abbrev pub invariant-loop-number : goal.invariant-loop-number
invariant-loop-number l = l.shown.items ≡ map (shown_at l.first) (range_with_len 1 (l.number-counter - 1))
