use Rattle.std.proofs.Common.{◌≡◌, ◌≤◌, ◌-◌, length, drop}
use Rattle.g4_preds.specs.Steps.{nodes_from, start, state_of}
use Rattle.g4_preds.proofs.parser.parse.Given as goal

abbrev pub invariant-loop-at : goal.invariant-loop-at
invariant-loop-at l = (nodes_from 0 (state_of l.parser) (drop l.at l.tokens) ≡ nodes_from 0 start l.tokens) × (l.at ≤ length l.tokens)

abbrev pub decreases-loop-at : goal.decreases-loop-at
decreases-loop-at l = length l.tokens - l.at
