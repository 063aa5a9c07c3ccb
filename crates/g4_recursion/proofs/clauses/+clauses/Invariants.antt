use Rattle.std.proofs.Common.{◌≡◌, List, take, map, Some}
use Rattle.std.specs.List.{slice_get}
use Rattle.g4_source.specs.Elements.{Alternatives, either}
use Rattle.g4_source.specs.Trees.{element_of, alternative_of, in_order}
use Rattle.g4_recursion.specs.declared.lead.Lead.{Lead}
use Rattle.g4_recursion.specs.Bodies.{AreBodies, Grows, HaveNeeds, IsCovered}
use Rattle.g4_recursion.proofs.clauses.+clauses.Given as goal

abbrev pub invariant-add_alternatives-loop-alternative : goal.invariant-add_alternatives-loop-alternative
invariant-add_alternatives-loop-alternative l =
    (rules bodies : List (Alternatives Lead)) → AreBodies rules bodies l.initial.made
    → slice_get bodies l.number ≡ Some (either (map alternative_of l.alternatives)) →
    (later : List (Alternatives Lead)) × Grows rules bodies later l.initial.made l.made
    × IsCovered rules later l.made.clauses.items l.number (either (take l.alternative-index (map alternative_of l.alternatives)))

abbrev pub invariant-add_alternative-loop-element : goal.invariant-add_alternative-loop-element
invariant-add_alternative-loop-element l =
    (rules bodies : List (Alternatives Lead)) → AreBodies rules bodies l.initial.made →
    (later : List (Alternatives Lead)) × Grows rules bodies later l.initial.made l.made
    × HaveNeeds rules later (in_order (take l.element-index (map element_of l.elements))) l.needs.items
