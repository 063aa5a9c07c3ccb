use Rattle.std.proofs.Common.{◌≡◌, ◌++◌, map, drop}
use Rattle.std.specs.List.{flat_map}
use Rattle.g4_checks.specs.Views.{use_view}
use Rattle.g4_checks.proofs.Nodes.{node_atoms, side_atoms}
use Rattle.g4_checks.proofs.atoms.+push.Given as goal

abbrev pub invariant-push_element-loop-alternative : goal.invariant-push_element-loop-alternative
invariant-push_element-loop-alternative l = map use_view l.found.items
    ++ flat_map (side_atoms l.kind) (drop l.alternative-index l.alternative-items)
    ≡ map use_view l.initial.found.items ++ node_atoms l.kind l.element

abbrev pub invariant-push_elements-loop-element : goal.invariant-push_elements-loop-element
invariant-push_elements-loop-element l = map use_view l.found.items ++ flat_map (node_atoms l.kind) (drop l.element-index l.elements)
    ≡ map use_view l.initial.found.items ++ flat_map (node_atoms l.kind) l.elements
