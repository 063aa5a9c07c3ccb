use Rattle.std.proofs.Common.{map, drop}
use Rattle.g4_layout.specs.Decisions.{OneHasDecision, SomeHasDecision}
use Rattle.g4_source.specs.Elements.{either}
use Rattle.g4_source.specs.Trees.{element_of, alternative_of, in_order}
use Rattle.g4_build.proofs.Widths.{NotYet}
use Rattle.g4_build.proofs.width.+width.Given as goal

abbrev pub invariant-one_is_wide-loop-element : goal.invariant-one_is_wide-loop-element
invariant-one_is_wide-loop-element g l = NotYet (OneHasDecision (in_order (map element_of l.elements)))
    (OneHasDecision (in_order (map element_of (drop l.element-index l.elements))))

abbrev pub invariant-some_is_wide-loop-alternative : goal.invariant-some_is_wide-loop-alternative
invariant-some_is_wide-loop-alternative g l =
    NotYet (SomeHasDecision (either (map alternative_of l.alternatives)))
    (SomeHasDecision (either (map alternative_of (drop l.alternative-index l.alternatives))))
