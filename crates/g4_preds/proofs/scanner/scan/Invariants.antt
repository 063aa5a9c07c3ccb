use Rattle.std.proofs.Common.{◌≤◌, ◌-◌, length, drop}
use Rattle.g4_preds.proofs.Scanned.{Scanned}
use Rattle.g4_preds.proofs.scanner.scan.Given as goal

abbrev pub invariant-loop-at : goal.invariant-loop-at
invariant-loop-at l = Scanned l.text (drop l.at l.text) l.tokens.items × (l.at ≤ length l.text)

abbrev pub decreases-loop-at : goal.decreases-loop-at
decreases-loop-at l = length l.text - l.at
