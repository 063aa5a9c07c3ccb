use Rattle.std.proofs.Common.{◌≡◌, ◌≤◌, ◌-◌, length, drop}
use Rattle.g4_chars.specs.declared.escape.Context.TheVariants.{Literal}
use Rattle.g4_grammar_tokens.proofs.Ends.{enclosed, enclosed_from}
use Rattle.g4_preds.proofs.literal.literal_length.Given as goal

abbrev pub invariant-loop-at : goal.invariant-loop-at
invariant-loop-at l =
    (enclosed_from Literal 39 0 l.at (drop l.at l.text) ≡ enclosed Literal 39 l.text) × (l.at ≤ length l.text)

abbrev pub decreases-loop-at : goal.decreases-loop-at
decreases-loop-at l = length l.text - l.at
