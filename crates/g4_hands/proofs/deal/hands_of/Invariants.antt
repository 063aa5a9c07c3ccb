use Rattle.std.proofs.Common.{◌≡◌, [], ℕ, List, Some, length, replicate, slice_get}
use Rattle.g4_hands.specs.Hands.{Holding}
use Rattle.g4_hands.specs.Reaches.{DequeId}
use Rattle.g4_hands.specs.Rows.{AreRows}
use Rattle.g4_hands.proofs.deal.hands_of.Given as goal

abbrev pub invariant-loop-row : goal.invariant-loop-row
invariant-loop-row l =
    (l.number ≡ length l.yielded) × (length l.hands.items ≡ l.number)
    × ((names : List DequeId) → length names ≡ length l.fn.rows.items → AreRows l.files (length l.fn.rows.items) names l.fn.rows.items
    → (number : ℕ) (h : Holding) → slice_get l.hands.items number ≡ Some h
    → h ≡ record {
      deal = record { files = l.files; jobs = length l.fn.rows.items; deques = names };
      number = number;
      taken =
          replicate (length l.fn.rows.items) [];
    })
