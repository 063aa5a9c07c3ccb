use Rattle.std.proofs.Common.{◌≡◌, ◌≤◌, ◌-◌, length, drop}
use Rattle.g4_grammar_tokens.proofs.Ends.{enclosed, enclosed_from}
use Rattle.g4_grammar_tokens.proofs.enclosed.enclosed.Given as goal

abbrev pub invariant-loop-at : goal.invariant-loop-at
invariant-loop-at l =
    (enclosed_from l.context l.close 0 l.at (drop l.at l.text) ≡ enclosed l.context l.close l.text) × (l.at ≤ length l.text)

abbrev pub decreases-loop-at : goal.decreases-loop-at
decreases-loop-at l = length l.text - l.at
