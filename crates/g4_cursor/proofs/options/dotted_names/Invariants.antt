use Rattle.g4_cursor.proofs.Turning.{Listed, left}
use Rattle.g4_cursor.specs.Options.{names_after_dots}
use Rattle.g4_cursor.proofs.options.dotted_names.Given as goal

abbrev pub invariant-loop-cursor : goal.invariant-loop-cursor
invariant-loop-cursor l = Listed names_after_dots l.initial.names.items l.initial.cursor l.names.items l.cursor

abbrev pub decreases-loop-cursor : goal.decreases-loop-cursor
decreases-loop-cursor l = left l.cursor
