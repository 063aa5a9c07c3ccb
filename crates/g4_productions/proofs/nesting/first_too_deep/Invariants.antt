use Rattle.std.proofs.Common.{ℕ, List, ◌≤◌}
use Rattle.g4_cursor.specs.Texts.{spelled}
use Rattle.g4_productions.proofs.TooDeep.{IsPassed}
use Rattle.g4_productions.proofs.nesting.first_too_deep.Given as goal

abbrev pub invariant-loop-at : goal.invariant-loop-at
invariant-loop-at l = ((text : List ℕ) → IsPassed (spelled text l.tokens) l.brackets.opened l.brackets.closed l.at)
    × (l.brackets.opened ≤ l.at) × (l.brackets.closed ≤ l.at)
