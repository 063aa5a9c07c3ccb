use Rattle.std.proofs.Common.{◌++◌, ◌+◌, ◌*◌, map}
use Rattle.g4_source.specs.Trees.{element_of, alternative_of}
use Rattle.g4_cursor.proofs.Turning.{Turned, left}
use Rattle.g4_productions.specs.LexerElements.{lexer_elements, lexer_alternatives_after}
use Rattle.g4_productions.proofs.lexer_element.+brackets.Given as goal

-- of calls before one token, one that reads a token first is nearest to the end of the recursion, and alternatives are farthest
abbrev pub decreases-block : goal.decreases-block
decreases-block l = left l.cursor.now * 10

abbrev pub decreases-unnamed_item : goal.decreases-unnamed_item
decreases-unnamed_item l = left l.cursor.now * 10 + 1

abbrev pub decreases-item : goal.decreases-item
decreases-item l = left l.cursor.now * 10 + 2

abbrev pub decreases-labelled_by : goal.decreases-labelled_by
decreases-labelled_by l = left l.cursor.now * 10 + 3

abbrev pub decreases-upper_item : goal.decreases-upper_item
decreases-upper_item l = left l.cursor.now * 10 + 4

abbrev pub decreases-labelled_item : goal.decreases-labelled_item
decreases-labelled_item l = left l.cursor.now * 10 + 5

abbrev pub decreases-element : goal.decreases-element
decreases-element l = left l.cursor.now * 10 + 6

abbrev pub decreases-elements : goal.decreases-elements
decreases-elements l = left l.cursor.now * 10 + 7

abbrev pub decreases-alternatives : goal.decreases-alternatives
decreases-alternatives l = left l.cursor.now * 10 + 8

abbrev pub invariant-elements-loop-cursor : goal.invariant-elements-loop-cursor
invariant-elements-loop-cursor l = Turned lexer_elements (λ rest. map element_of l.elements.items ++ lexer_elements rest)
    l.initial.cursor l.cursor

abbrev pub decreases-elements-loop-cursor : goal.decreases-elements-loop-cursor
decreases-elements-loop-cursor l = left l.cursor

abbrev pub invariant-alternatives-loop-cursor : goal.invariant-alternatives-loop-cursor
invariant-alternatives-loop-cursor l = Turned
    (λ tree. map alternative_of l.initial.alternatives.items ++ lexer_alternatives_after tree)
    (λ rest. map alternative_of l.alternatives.items ++ lexer_alternatives_after rest) l.initial.cursor l.cursor

abbrev pub decreases-alternatives-loop-cursor : goal.decreases-alternatives-loop-cursor
decreases-alternatives-loop-cursor l = left l.cursor
