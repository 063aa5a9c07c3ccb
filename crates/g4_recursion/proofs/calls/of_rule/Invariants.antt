use Rattle.std.proofs.Common.{◌≡◌, List, Bool, Some}
use Rattle.std.specs.List.{slice_get}
use Rattle.g4_source.specs.Elements.{Alternatives}
use Rattle.g4_horn.specs.Follows.{Tells}
use Rattle.g4_recursion.specs.declared.lead.Lead.{Lead}
use Rattle.g4_recursion.specs.Leads.{IsNullableRule}
use Rattle.g4_recursion.proofs.LeadsRunning.{RunsLeft}
use Rattle.g4_recursion.proofs.calls.of_rule.Given as goal

abbrev pub invariant-loop-elements : goal.invariant-loop-elements
invariant-loop-elements l =
    (rules : List (Alternatives Lead)) (operators : List Bool) → Tells l.nullable (IsNullableRule rules)
    → slice_get operators l.number ≡ Some l.rule.may_have_operators
    → RunsLeft rules operators l.number l.rule.alternatives l.calls.items l.elements-index
