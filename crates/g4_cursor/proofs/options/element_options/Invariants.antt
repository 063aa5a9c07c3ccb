use Rattle.std.proofs.Common.{◌||◌}
use Rattle.g4_cursor.proofs.Turning.{Turned, left}
use Rattle.g4_cursor.specs.Options.{one_says_right}
use Rattle.g4_cursor.proofs.options.element_options.Given as goal

abbrev pub invariant-loop-cursor : goal.invariant-loop-cursor
invariant-loop-cursor l = Turned (λ tree. l.initial.right || one_says_right tree) (λ rest. l.right || one_says_right rest)
    l.initial.cursor l.cursor

abbrev pub decreases-loop-cursor : goal.decreases-loop-cursor
decreases-loop-cursor l = left l.cursor
