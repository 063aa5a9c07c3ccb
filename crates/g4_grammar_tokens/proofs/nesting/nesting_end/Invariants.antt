use Rattle.std.proofs.Common.{◌≡◌, ◌≤◌, ◌-◌, length, drop}
use Rattle.g4_grammar_tokens.specs.Nesting.{AreUnclosed}
use Rattle.g4_grammar_tokens.proofs.Ends.{nesting_end, nesting_end_from}
use Rattle.g4_grammar_tokens.proofs.nesting.nesting_end.Given as goal

abbrev pub invariant-loop-at : goal.invariant-loop-at
invariant-loop-at l =
    (nesting_end_from l.opening l.closing l.depth 0 l.at (drop l.at l.text) ≡ nesting_end l.opening l.closing l.text)
    × (l.at ≤ length l.text) × (l.depth ≤ l.at) × AreUnclosed l.text l.at l.unclosed

abbrev pub decreases-loop-at : goal.decreases-loop-at
decreases-loop-at l = length l.text - l.at
