use Rattle.g4_cursor.proofs.Turning.{left, Passing}
use Rattle.g4_syntax.specs.Productions.{rule_action}
use Rattle.g4_cursor.proofs.passing.pass_rule_actions.Given as goal

abbrev pub invariant-loop-cursor : goal.invariant-loop-cursor
invariant-loop-cursor l = Passing rule_action l.initial.cursor l.cursor

abbrev pub decreases-loop-cursor : goal.decreases-loop-cursor
decreases-loop-cursor l = left l.cursor
