use Rattle.std.proofs.Common.{List, map}
use Rattle.g4_source.specs.Elements.{Alternatives}
use Rattle.g4_source.specs.Trees.{element_of, alternative_of}
use Rattle.g4_horn.specs.Follows.{Tells}
use Rattle.g4_recursion.specs.declared.lead.Lead.{Lead}
use Rattle.g4_recursion.specs.Leads.{IsNullableRule}
use Rattle.g4_recursion.proofs.Looping.{EitherLeft, InOrderLeft}
use Rattle.g4_recursion.proofs.loops.+loops.Given as goal

abbrev pub invariant-of_either-loop-alternative : goal.invariant-of_either-loop-alternative
invariant-of_either-loop-alternative l = (rules : List (Alternatives Lead)) → Tells l.nullable (IsNullableRule rules)
    → EitherLeft rules (map alternative_of l.alternatives) l.found l.alternative-index

abbrev pub invariant-of_elements-loop-element : goal.invariant-of_elements-loop-element
invariant-of_elements-loop-element l = (rules : List (Alternatives Lead)) → Tells l.nullable (IsNullableRule rules)
    → InOrderLeft rules (map element_of l.elements) l.found l.element-index
