use Rattle.g4_cursor.proofs.Turning.{left, Listed}
use Rattle.g4_productions.specs.Rules.{parser_rules}
use Rattle.g4_productions.proofs.grammar.parser_rules.Given as goal

abbrev pub invariant-loop-cursor : goal.invariant-loop-cursor
invariant-loop-cursor l = Listed parser_rules l.initial.rules.items l.initial.cursor l.rules.items l.cursor

abbrev pub decreases-loop-cursor : goal.decreases-loop-cursor
decreases-loop-cursor l = left l.cursor
