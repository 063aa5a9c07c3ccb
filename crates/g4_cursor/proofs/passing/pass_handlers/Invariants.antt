use Rattle.g4_cursor.proofs.Turning.{left, Passing}
use Rattle.std.specs.Prelude.{codes}
use Rattle.g4_syntax.specs.Notation.{sign, word, ◌▸◌}
use Rattle.g4_grammar_tokens.specs.declared.token.Kind.TheVariants as kinds
use Rattle.g4_cursor.proofs.passing.pass_handlers.Given as goal

abbrev pub invariant-loop-cursor : goal.invariant-loop-cursor
invariant-loop-cursor l = Passing (word (codes "catch") ▸ sign kinds.Arguments ▸ sign kinds.Action) l.initial.cursor l.cursor

abbrev pub decreases-loop-cursor : goal.decreases-loop-cursor
decreases-loop-cursor l = left l.cursor
