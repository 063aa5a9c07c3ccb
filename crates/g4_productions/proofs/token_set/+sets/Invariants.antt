use Rattle.std.proofs.Common.{◌++◌, ◌+◌, ◌*◌}
use Rattle.g4_cursor.proofs.Turning.{Turned, left}
use Rattle.g4_productions.specs.ParserElements.{references_after}
use Rattle.g4_productions.proofs.token_set.+sets.Given as goal

-- of calls before one token, brackets are nearest to the end of the recursion
abbrev pub decreases-add_brackets : goal.decreases-add_brackets
decreases-add_brackets l = left l.cursor.now * 2

abbrev pub decreases-add_set : goal.decreases-add_set
decreases-add_set l = left l.cursor.now * 2 + 1

abbrev pub invariant-add_brackets-loop-cursor : goal.invariant-add_brackets-loop-cursor
invariant-add_brackets-loop-cursor l = Turned (λ tree. l.initial.references.items ++ references_after tree)
    (λ rest. l.references.items ++ references_after rest) l.initial.cursor l.cursor

abbrev pub decreases-add_brackets-loop-cursor : goal.decreases-add_brackets-loop-cursor
decreases-add_brackets-loop-cursor l = left l.cursor
