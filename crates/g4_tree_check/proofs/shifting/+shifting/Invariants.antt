use Rattle.std.proofs.Common.{◌≡◌, ◌||◌, ◌++◌, map}
use Rattle.g4_source.specs.Elements.{either}
use Rattle.g4_source.specs.Trees.{element_of, alternative_of, in_order}
use Rattle.g4_tree_check.specs.Children.{is_quiet, takes}
use Rattle.g4_tree_check.specs.Marks.{ends_all, ends_either, past_all, past_either, shift_all, shift_either}
use Rattle.g4_tree_check.proofs.Nodes.{elements_from, sides_from}
use Rattle.g4_tree_check.proofs.shifting.+shifting.Given as goal

abbrev pub invariant-shift_either-loop-alternative : goal.invariant-shift_either-loop-alternative
invariant-shift_either-loop-alternative l =
    ((l.reached || ends_either is_quiet l.before (sides_from l.alternatives l.alternative-index) l.rest)
    ≡ ends_either is_quiet l.before (either (map alternative_of l.alternatives)) l.marks)
    × (past_either (sides_from l.alternatives l.alternative-index) l.rest
    ≡ past_either (either (map alternative_of l.alternatives)) l.marks)
    × (l.next.items ++ shift_either is_quiet (takes l.child) l.before (sides_from l.alternatives l.alternative-index) l.rest
    ≡ l.initial.next.items ++ shift_either is_quiet (takes l.child) l.before (either (map alternative_of l.alternatives)) l.marks)

abbrev pub invariant-shift_elements-loop-element : goal.invariant-shift_elements-loop-element
invariant-shift_elements-loop-element l =
    (ends_all is_quiet l.reached (elements_from l.elements l.element-index) l.rest
    ≡ ends_all is_quiet l.before (in_order (map element_of l.elements)) l.marks)
    × (past_all (elements_from l.elements l.element-index) l.rest ≡ past_all (in_order (map element_of l.elements)) l.marks)
    × (l.next.items ++ shift_all is_quiet (takes l.child) l.reached (elements_from l.elements l.element-index) l.rest
    ≡ l.initial.next.items ++ shift_all is_quiet (takes l.child) l.before (in_order (map element_of l.elements)) l.marks)
