use Rattle.g4_build.proofs.Widths.{one_found, one_passed, next_sides}
use Rattle.g4_build.proofs.width.some_body_is_wide.Goals as goal

pub returns-then-one_is_wide : goal.returns-then-one_is_wide
returns-then-one_is_wide g c =
    one_found _ _ _ _ c.one_is_wide.ensures c.if-one_is_wide.true
    (next_sides (λ a. a.elements) _ c.args.alternatives.now c.loop-alternative.alternative-index c.alternative-item.result _
    c.loop-alternative-test.true c.alternative-item.is c.as_slice.ensures c.loop-alternative.invariant)

pub loop-alternative-preserved : goal.loop-alternative-preserved
loop-alternative-preserved g c =
    one_passed _ _ _ _ c.one_is_wide.ensures c.if-one_is_wide.false
    (next_sides (λ a. a.elements) _ c.args.alternatives.now c.loop-alternative.alternative-index c.alternative-item.result _
    c.loop-alternative-test.true c.alternative-item.is c.as_slice.ensures c.loop-alternative.invariant)
