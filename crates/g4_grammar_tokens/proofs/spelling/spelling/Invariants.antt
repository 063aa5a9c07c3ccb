use Rattle.std.proofs.Common.{◌≡◌, ◌≤◌, ◌-◌, ◌++◌, length, drop}
use Rattle.g4_grammar_tokens.specs.Spelling.{spelling_from}
use Rattle.g4_grammar_tokens.proofs.spelling.spelling.Given as goal

abbrev pub invariant-loop-at : goal.invariant-loop-at
invariant-loop-at l =
    (l.characters.items ++ spelling_from 0 (drop l.at l.text) ≡ spelling_from 0 l.text) × (l.at ≤ length l.text)

abbrev pub decreases-loop-at : goal.decreases-loop-at
decreases-loop-at l = length l.text - l.at
