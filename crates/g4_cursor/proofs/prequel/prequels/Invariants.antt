use Rattle.g4_cursor.proofs.Turning.{left, Turned}
use Rattle.std.proofs.Common.{◌++◌}
use Rattle.g4_cursor.specs.Prequels.{prequels_of}
use Rattle.g4_cursor.proofs.prequel.prequels.Given as goal

abbrev pub invariant-loop-cursor : goal.invariant-loop-cursor
invariant-loop-cursor l = Turned prequels_of (λ rest. l.prequels.items ++ prequels_of rest) l.initial.cursor l.cursor

abbrev pub decreases-loop-cursor : goal.decreases-loop-cursor
decreases-loop-cursor l = left l.cursor
