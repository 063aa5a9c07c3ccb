use Rattle.std.proofs.Common.{map, drop}
use Rattle.g4_layout.specs.Decisions.{SomeHasDecision}
use Rattle.g4_source.specs.Elements.{either}
use Rattle.g4_build.proofs.Widths.{NotYet}
use Rattle.g4_build.proofs.width.some_body_is_wide.Given as goal

abbrev pub invariant-loop-alternative : goal.invariant-loop-alternative
invariant-loop-alternative g l = NotYet (SomeHasDecision (either (map (λ a. a.elements) l.alternatives)))
    (SomeHasDecision (either (map (λ a. a.elements) (drop l.alternative-index l.alternatives))))
