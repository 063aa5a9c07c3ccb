use Rattle.g4_cursor.proofs.Turning.{left, Listed}
use Rattle.g4_productions.specs.Rules.{lexer_rules}
use Rattle.g4_productions.proofs.lexer_rule.section.Given as goal

abbrev pub invariant-loop-cursor : goal.invariant-loop-cursor
invariant-loop-cursor l = Listed lexer_rules l.initial.rules.items l.initial.cursor l.rules.items l.cursor

abbrev pub decreases-loop-cursor : goal.decreases-loop-cursor
decreases-loop-cursor l = left l.cursor
