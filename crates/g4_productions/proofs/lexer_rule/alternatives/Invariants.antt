use Rattle.g4_cursor.proofs.Turning.{left, Listed}
use Rattle.g4_productions.specs.Rules.{rule_lexer_alternatives_after}
use Rattle.g4_productions.proofs.lexer_rule.alternatives.Given as goal

abbrev pub invariant-loop-cursor : goal.invariant-loop-cursor
invariant-loop-cursor l = Listed rule_lexer_alternatives_after l.initial.alternatives.items l.initial.cursor l.alternatives.items l.cursor

abbrev pub decreases-loop-cursor : goal.decreases-loop-cursor
decreases-loop-cursor l = left l.cursor
