use Rattle.std.proofs.Common.{◌≡◌}
use Rattle.g4_hands.specs.Hands.{WereEmpty}
use Rattle.g4_hands.proofs.hand.take_first.Given as goal

abbrev pub invariant-loop-deque : goal.invariant-loop-deque
invariant-loop-deque g l = (l.seats ≡ l.fn.seats) × WereEmpty l.from l.deque l.fn.seats
