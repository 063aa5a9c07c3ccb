use Rattle.std.proofs.Common.{◌≡◌, ℕ, ◌<◌, List, Some}
use Rattle.std.specs.List.{slice_get}
use Rattle.g4_source.specs.Elements.{Alternatives}
use Rattle.g4_recursion.specs.declared.lead.Lead.{Lead}
use Rattle.g4_recursion.specs.Leads.{trees_of}
use Rattle.g4_recursion.specs.Bodies.{Grows, IsCovered}
use Rattle.g4_recursion.proofs.clauses.bodies_of.Given as goal

abbrev pub invariant-loop-number : goal.invariant-loop-number
invariant-loop-number l =
    (later : List (Alternatives Lead)) × Grows (trees_of l.rules) (trees_of l.rules) later l.initial.made l.made ×
    ((k : ℕ) (xs : Alternatives Lead) → k < l.number → slice_get (trees_of l.rules) k ≡ Some xs
    → IsCovered (trees_of l.rules) later l.made.clauses.items k xs)
