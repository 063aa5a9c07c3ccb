use Rattle.std.proofs.Common.{◌≡◌}
use Rattle.crossbeam_deque.specs.Handles.{IsPassOf, stealer_deque, view}
use Rattle.g4_hands.proofs.thief.steal.Given as goal

abbrev pub invariant-loop : goal.invariant-loop
invariant-loop g l = IsPassOf (stealer_deque l.end) l.place × (view l.place ≡ view l.fn.place)
