use Rattle.g4_source.specs.Trees.{alternative_of}
use Rattle.g4_states.proofs.Trees.{plain_side}
use Rattle.g4_build.proofs.Widths.{atom_not_wide, wide_block, told_first, told_second, one_found, one_passed, next_elements, next_sides}
use Rattle.g4_build.proofs.width.+width.Goals as goal

pub is_wide-returns-in-Atom : goal.is_wide-returns-in-Atom
is_wide-returns-in-Atom g t c = (λ h. absurd (cc), λ h. absurd (atom_not_wide c.args.element.now c.in-Atom.field-0 c.in-Atom.is h))

pub is_wide-returns-then-is_too_many : goal.is_wide-returns-then-is_too_many
is_wide-returns-then-is_too_many g t c =
    told_first _ _ _ _ (wide_block c.args.element.now c.in-Block.field-0 c.in-Block.repeat c.in-Block.alternatives
    c.as_slice-bodies.result.now c.in-Block.is c.as_slice-bodies.ensures.value) c.is_too_many.ensures c.if-is_too_many.true

pub is_wide-returns-else-is_too_many : goal.is_wide-returns-else-is_too_many
is_wide-returns-else-is_too_many g t c =
    told_second _ _ _ _ _ (wide_block c.args.element.now c.in-Block.field-0 c.in-Block.repeat c.in-Block.alternatives
    c.as_slice-bodies.result.now c.in-Block.is c.as_slice-bodies.ensures.value) c.is_too_many.ensures c.if-is_too_many.false
    c.some_is_wide.ensures

pub one_is_wide-returns-then-is_wide : goal.one_is_wide-returns-then-is_wide
one_is_wide-returns-then-is_wide g t c =
    one_found _ _ _ _ c.is_wide.ensures c.if-is_wide.true
    (next_elements _ c.args.elements.now c.loop-element.element-index c.element-item.result c.loop-element-test.true
    c.element-item.is c.loop-element.invariant)

pub one_is_wide-loop-element-preserved : goal.one_is_wide-loop-element-preserved
one_is_wide-loop-element-preserved g t c =
    one_passed _ _ _ _ c.is_wide.ensures c.if-is_wide.false
    (next_elements _ c.args.elements.now c.loop-element.element-index c.element-item.result c.loop-element-test.true
    c.element-item.is c.loop-element.invariant)

pub some_is_wide-returns-then-one_is_wide : goal.some_is_wide-returns-then-one_is_wide
some_is_wide-returns-then-one_is_wide g t c =
    one_found _ _ _ _ c.one_is_wide.ensures c.if-one_is_wide.true
    (next_sides alternative_of _ c.args.alternatives.now c.loop-alternative.alternative-index c.alternative-item.result _
    c.loop-alternative-test.true c.alternative-item.is
    (plain_side c.alternative-item.result c.as_slice.result.now c.as_slice.ensures.value) c.loop-alternative.invariant)

pub some_is_wide-loop-alternative-preserved : goal.some_is_wide-loop-alternative-preserved
some_is_wide-loop-alternative-preserved g t c =
    one_passed _ _ _ _ c.one_is_wide.ensures c.if-one_is_wide.false
    (next_sides alternative_of _ c.args.alternatives.now c.loop-alternative.alternative-index c.alternative-item.result _
    c.loop-alternative-test.true c.alternative-item.is
    (plain_side c.alternative-item.result c.as_slice.result.now c.as_slice.ensures.value) c.loop-alternative.invariant)
