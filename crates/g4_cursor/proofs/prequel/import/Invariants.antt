use Rattle.g4_cursor.proofs.Turning.{left, Listed}
use Rattle.g4_cursor.specs.Prequels.{imported_after}
use Rattle.g4_cursor.proofs.prequel.import.Given as goal

abbrev pub invariant-loop-cursor : goal.invariant-loop-cursor
invariant-loop-cursor l = Listed imported_after l.initial.names.items l.initial.cursor l.names.items l.cursor

abbrev pub decreases-loop-cursor : goal.decreases-loop-cursor
decreases-loop-cursor l = left l.cursor
