use Rattle.std.proofs.Common.{◌++◌, ◌+◌, ◌*◌, ◌||◌, map}
use Rattle.g4_source.specs.Trees.{element_of, alternative_of}
use Rattle.g4_cursor.proofs.Turning.{Turned, left}
use Rattle.g4_productions.specs.ParserElements.{parser_elements, parser_items, elements_right, alternatives_after}
use Rattle.g4_productions.proofs.parser_element.+brackets.Given as goal

-- of calls before one token, one that reads a token first is nearest to the end of the recursion, and alternatives are farthest
abbrev pub decreases-block : goal.decreases-block
decreases-block l = left l.cursor.now * 11

abbrev pub decreases-unnamed_item : goal.decreases-unnamed_item
decreases-unnamed_item l = left l.cursor.now * 11 + 1

abbrev pub decreases-item : goal.decreases-item
decreases-item l = left l.cursor.now * 11 + 2

abbrev pub decreases-labelled_after : goal.decreases-labelled_after
decreases-labelled_after l = left l.cursor.now * 11 + 3

abbrev pub decreases-lower_item : goal.decreases-lower_item
decreases-lower_item l = left l.cursor.now * 11 + 4

abbrev pub decreases-upper_item : goal.decreases-upper_item
decreases-upper_item l = left l.cursor.now * 11 + 5

abbrev pub decreases-labelled_item : goal.decreases-labelled_item
decreases-labelled_item l = left l.cursor.now * 11 + 6

abbrev pub decreases-element : goal.decreases-element
decreases-element l = left l.cursor.now * 11 + 7

abbrev pub decreases-elements : goal.decreases-elements
decreases-elements l = left l.cursor.now * 11 + 8

abbrev pub decreases-alternative : goal.decreases-alternative
decreases-alternative l = left l.cursor.now * 11 + 9

abbrev pub decreases-alternatives : goal.decreases-alternatives
decreases-alternatives l = left l.cursor.now * 11 + 10

abbrev pub invariant-elements-loop-cursor : goal.invariant-elements-loop-cursor
invariant-elements-loop-cursor l = Turned parser_items
    (λ rest. (map element_of l.elements.items ++ parser_elements rest, l.right || elements_right rest)) l.initial.cursor l.cursor

abbrev pub decreases-elements-loop-cursor : goal.decreases-elements-loop-cursor
decreases-elements-loop-cursor l = left l.cursor

abbrev pub invariant-alternatives-loop-cursor : goal.invariant-alternatives-loop-cursor
invariant-alternatives-loop-cursor l = Turned (λ tree. map alternative_of l.initial.alternatives.items ++ alternatives_after tree)
    (λ rest. map alternative_of l.alternatives.items ++ alternatives_after rest) l.initial.cursor l.cursor

abbrev pub decreases-alternatives-loop-cursor : goal.decreases-alternatives-loop-cursor
decreases-alternatives-loop-cursor l = left l.cursor
