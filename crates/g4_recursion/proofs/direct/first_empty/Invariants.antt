use Rattle.std.proofs.Common.{List}
use Rattle.g4_source.specs.Elements.{Alternatives}
use Rattle.g4_horn.specs.Follows.{Tells}
use Rattle.g4_recursion.specs.declared.lead.Lead.{Lead}
use Rattle.g4_recursion.specs.Leads.{IsNullableRule}
use Rattle.g4_recursion.specs.AtomLeads.{IsEmptyAt}
use Rattle.g4_recursion.proofs.Searching.{NoneBelow}
use Rattle.g4_recursion.proofs.direct.first_empty.Given as goal

abbrev pub invariant-loop-place : goal.invariant-loop-place
invariant-loop-place l = (rules : List (Alternatives Lead)) → Tells l.nullable (IsNullableRule rules)
    → NoneBelow (IsEmptyAt rules l.number l.alternatives) l.place
