use Rattle.std.proofs.Common.{◌≡◌, ◌++◌, drop}
use Rattle.std.specs.List.{flat_map}
use Rattle.g4_resolve.proofs.Gathering.{node_texts, side_texts}
use Rattle.g4_resolve.proofs.predicates.+push.Given as goal

abbrev pub invariant-push_element-loop-alternative : goal.invariant-push_element-loop-alternative
invariant-push_element-loop-alternative l = l.found.items ++ flat_map side_texts (drop l.alternative-index l.alternative-items)
    ≡ l.initial.found.items ++ node_texts l.element

abbrev pub invariant-push_elements-loop-element : goal.invariant-push_elements-loop-element
invariant-push_elements-loop-element l = l.found.items ++ flat_map node_texts (drop l.element-index l.elements)
    ≡ l.initial.found.items ++ flat_map node_texts l.elements
