use Rattle.std.proofs.Common.{◌++◌, ◌+◌, ◌*◌}
use Rattle.g4_cursor.proofs.Turning.{Turned, left}
use Rattle.g4_productions.specs.LexerElements.{excluded_after}
use Rattle.g4_productions.proofs.excluded.+brackets.Given as goal

-- of calls before one token, brackets are nearest to the end of the recursion
abbrev pub decreases-add_brackets : goal.decreases-add_brackets
decreases-add_brackets l = left l.cursor.now * 2

abbrev pub decreases-add_excluded : goal.decreases-add_excluded
decreases-add_excluded l = left l.cursor.now * 2 + 1

abbrev pub invariant-add_brackets-loop-cursor : goal.invariant-add_brackets-loop-cursor
invariant-add_brackets-loop-cursor l = Turned (λ tree. l.initial.ranges.items ++ excluded_after tree)
    (λ rest. l.ranges.items ++ excluded_after rest) l.initial.cursor l.cursor

abbrev pub decreases-add_brackets-loop-cursor : goal.decreases-add_brackets-loop-cursor
decreases-add_brackets-loop-cursor l = left l.cursor
