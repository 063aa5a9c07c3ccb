use Rattle.g4_cursor.proofs.Turning.{left, Listed}
use Rattle.g4_productions.specs.Rules.{sections_of}
use Rattle.g4_productions.proofs.lexer_rule.sections.Given as goal

abbrev pub invariant-loop-cursor : goal.invariant-loop-cursor
invariant-loop-cursor l = Listed sections_of l.initial.sections.items l.initial.cursor l.sections.items l.cursor

abbrev pub decreases-loop-cursor : goal.decreases-loop-cursor
decreases-loop-cursor l = left l.cursor
