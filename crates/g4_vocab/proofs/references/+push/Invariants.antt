use Rattle.std.proofs.Common.{◌≡◌, ◌++◌, map, drop}
use Rattle.std.specs.List.{flat_map}
use Rattle.g4_vocab.specs.Tables.{reference_of}
use Rattle.g4_vocab.proofs.Nodes.{node_tokens, side_tokens}
use Rattle.g4_vocab.proofs.references.+push.Given as goal

abbrev pub invariant-push_element-loop-alternative : goal.invariant-push_element-loop-alternative
invariant-push_element-loop-alternative l = map reference_of l.found.items
    ++ flat_map side_tokens (drop l.alternative-index l.alternative-items) ≡ map reference_of l.initial.found.items ++ node_tokens l.element

abbrev pub invariant-push_elements-loop-element : goal.invariant-push_elements-loop-element
invariant-push_elements-loop-element l = map reference_of l.found.items ++ flat_map node_tokens (drop l.element-index l.elements)
    ≡ map reference_of l.initial.found.items ++ flat_map node_tokens l.elements
