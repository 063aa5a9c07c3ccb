use Rattle.std.proofs.Common.{◌≡◌, List, take, Some}
use Rattle.std.specs.List.{slice_get}
use Rattle.g4_source.specs.Elements.{Alternatives, either}
use Rattle.g4_recursion.specs.declared.lead.Lead.{Lead}
use Rattle.g4_recursion.specs.Bodies.{AreBodies, Grows, IsCovered}
use Rattle.g4_recursion.proofs.clauses.add_rule.Given as goal

abbrev pub invariant-loop-elements : goal.invariant-loop-elements
invariant-loop-elements l =
    (rules bodies : List (Alternatives Lead)) → AreBodies rules bodies l.initial.made
    → slice_get bodies l.number ≡ Some (either l.alternatives) →
    (later : List (Alternatives Lead)) × Grows rules bodies later l.initial.made l.made
    × IsCovered rules later l.made.clauses.items l.number (either (take l.elements-index l.alternatives))
