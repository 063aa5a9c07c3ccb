use Rattle.g4_cursor.proofs.Turning.{left, Turned}
use Rattle.std.proofs.Common.{◌++◌}
use Rattle.g4_cursor.specs.Prequels.{names_from}
use Rattle.g4_cursor.proofs.prequel.names_from.Given as goal

abbrev pub invariant-loop-cursor : goal.invariant-loop-cursor
invariant-loop-cursor l = Turned names_from (λ rest. l.names.items ++ names_from rest) l.initial.cursor l.cursor

abbrev pub decreases-loop-cursor : goal.decreases-loop-cursor
decreases-loop-cursor l = left l.cursor
