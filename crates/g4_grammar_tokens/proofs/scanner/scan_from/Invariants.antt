use Rattle.std.proofs.Common.{◌≤◌, ◌+◌, ◌*◌, ◌-◌, length}
use Rattle.g4_grammar_tokens.specs.Scanning.{start_at}
use Rattle.g4_grammar_tokens.proofs.Reached.{Reached}
use Rattle.g4_grammar_tokens.proofs.scanner.scan_from.Given as goal

abbrev pub invariant-loop-at : goal.invariant-loop-at
invariant-loop-at l =
    Reached (start_at l.index) l.text l.statement l.position l.at l.tokens.items × (l.at ≤ length l.text)
    × (l.position.place.line ≤ 1 + l.at) × (l.position.place.column ≤ l.at) × (l.position.index ≤ l.index + 4 * l.at)

abbrev pub decreases-loop-at : goal.decreases-loop-at
decreases-loop-at l = length l.text - l.at
