use Rattle.std.proofs.Common.{List}
use Rattle.g4_source.specs.Elements.{Alternatives}
use Rattle.g4_horn.specs.Follows.{Tells}
use Rattle.g4_recursion.specs.declared.lead.Lead.{Lead}
use Rattle.g4_recursion.specs.Leads.{IsNullableRule}
use Rattle.g4_recursion.proofs.Looping.{NoneBefore}
use Rattle.g4_recursion.proofs.loops.has_empty_loop.Given as goal

abbrev pub invariant-loop-elements : goal.invariant-loop-elements
invariant-loop-elements l = (rules : List (Alternatives Lead)) → Tells l.nullable (IsNullableRule rules)
    → NoneBefore rules l.elements-items l.elements-index
