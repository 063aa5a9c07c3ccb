use Rattle.g4_cursor.proofs.Turning.{left, Listed}
use Rattle.g4_productions.specs.Rules.{commands_after}
use Rattle.g4_productions.proofs.lexer_rule.commands_in_order.Given as goal

abbrev pub invariant-loop-cursor : goal.invariant-loop-cursor
invariant-loop-cursor l = Listed commands_after l.initial.commands.items l.initial.cursor l.commands.items l.cursor

abbrev pub decreases-loop-cursor : goal.decreases-loop-cursor
decreases-loop-cursor l = left l.cursor
