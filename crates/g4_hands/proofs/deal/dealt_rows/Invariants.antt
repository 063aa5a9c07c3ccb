use Rattle.std.proofs.Common.{◌≡◌, List, length}
use Rattle.g4_hands.specs.Reaches.{DequeId}
use Rattle.g4_hands.specs.Rows.{AreRows}
use Rattle.g4_hands.proofs.deal.dealt_rows.Given as goal

abbrev pub invariant-loop-hand : goal.invariant-loop-hand
invariant-loop-hand l = (names : List DequeId) × (length names ≡ l.hand) × AreRows l.files l.jobs names l.rows.items
