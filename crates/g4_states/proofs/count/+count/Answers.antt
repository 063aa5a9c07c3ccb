use Rattle.std.proofs.Common.{arith, sym, ◌∙◌, ap}
use Rattle.g4_source.specs.Trees.{alternative_of}
use Rattle.g4_layout.specs.Size.{states_by}
use Rattle.g4_states.proofs.Counts.{count_block, count_lone, count_several, count_next, none_left, left_of, less_some}
use Rattle.g4_states.proofs.Trees.{plain_atom, plain_block, plain_side}
use Rattle.g4_states.proofs.count.+count.Goals as goal

pub past_element-returns-in-Atom : goal.past_element-returns-in-Atom
past_element-returns-in-Atom g t c =
    let e = ap (states_by g.A.Atomic.states) (plain_atom c.args.element.now c.in-Atom.atom c.in-Atom.is) in
    less_some _ _ c.args.spare 0 _ _ c.checked_sub.ensures (omega arith) (omega (arith, e, c.states.ensures))

pub past_element-returns-in-Block : goal.past_element-returns-in-Block
past_element-returns-in-Block g t c =
    let e = ap (states_by g.A.Atomic.states) (plain_block c.args.element.now c.in-Block.field-0 c.in-Block.repeat
    c.in-Block.alternatives c.as_slice.result.now c.in-Block.is c.as_slice.ensures.value) ∙
    count_block g.A.Atomic.states c.in-Block.field-0 c.in-Block.repeat _ in
    left_of _ _ _ _ (sym e) c.past_block.ensures

pub past_block-returns-in_err-past_sides-in-Optional : goal.past_block-returns-in_err-past_sides-in-Optional
past_block-returns-in_err-past_sides-in-Optional g t c =
    rw c.in-Optional.is (none_left _ _ _ _ c.from_residual.ensures c.in_err-past_sides-in-Optional.ensures (omega arith))

pub past_block-returns-in_ok-past_sides-in-Optional : goal.past_block-returns-in_ok-past_sides-in-Optional
past_block-returns-in_ok-past_sides-in-Optional g t c =
    rw c.in-Optional.is (less_some _ _ _ _ 2 _ c.checked_sub.ensures c.in_ok-past_sides-in-Optional.ensures (omega arith))

pub past_block-returns-in_err-past_sides-in-Star : goal.past_block-returns-in_err-past_sides-in-Star
past_block-returns-in_err-past_sides-in-Star g t c =
    rw c.in-Star.is (none_left _ _ _ _ c.from_residual-in_err-past_sides-in-Star.ensures c.in_err-past_sides-in-Star.ensures (omega arith))

pub past_block-returns-in_ok-past_sides-in-Star : goal.past_block-returns-in_ok-past_sides-in-Star
past_block-returns-in_ok-past_sides-in-Star g t c =
    rw c.in-Star.is (less_some _ _ _ _ 1 _ c.checked_sub-in-Star.ensures c.in_ok-past_sides-in-Star.ensures (omega arith))

pub past_block-returns-in_err-past_sides-in-Plus : goal.past_block-returns-in_err-past_sides-in-Plus
past_block-returns-in_err-past_sides-in-Plus g t c =
    rw c.in-Plus.is (none_left _ _ _ _ c.from_residual-in_err-past_sides-in-Plus.ensures c.in_err-past_sides-in-Plus.ensures (omega arith))

pub past_block-returns-in_ok-past_sides-in-Plus : goal.past_block-returns-in_ok-past_sides-in-Plus
past_block-returns-in_ok-past_sides-in-Plus g t c =
    rw c.in-Plus.is (less_some _ _ _ _ 2 _ c.checked_sub-in-Plus.ensures c.in_ok-past_sides-in-Plus.ensures (omega arith))

pub past_once-returns-in-len1 : goal.past_once-returns-in-len1
past_once-returns-in-len1 g t c =
    let e = count_lone g.A.Atomic.states alternative_of c.args.alternatives.now c.one-item.result _ c.in-len1.len_at_least
    c.in-len1.len_below c.one-item.is (plain_side c.one-item.result c.as_slice.result.now c.as_slice.ensures.value) in
    left_of _ _ _ _ (sym e) c.past_run.ensures

pub past_once-returns-in_err-past_sides-in_default : goal.past_once-returns-in_err-past_sides-in_default
past_once-returns-in_err-past_sides-in_default g t c =
    let e = count_several g.A.Atomic.states alternative_of c.args.alternatives.now c.in_default.len_at_least in
    none_left _ _ _ _ c.from_residual.ensures (c.in_err-past_sides-in_default.ensures) (omega (arith, e))

pub past_once-returns-in_ok-past_sides-in_default : goal.past_once-returns-in_ok-past_sides-in_default
past_once-returns-in_ok-past_sides-in_default g t c =
    let e = count_several g.A.Atomic.states alternative_of c.args.alternatives.now c.in_default.len_at_least in
    less_some _ _ _ _ 1 _ c.checked_sub.ensures (c.in_ok-past_sides-in_default.ensures) (sym e)

pub past_sides-loop-alternative-preserved : goal.past_sides-loop-alternative-preserved
past_sides-loop-alternative-preserved g t c =
    let e = count_next g.A.Atomic.states alternative_of c.args.alternatives.now c.loop-alternative.alternative-index
    c.alternative-item.result _ c.loop-alternative-test.true c.alternative-item.is
    (plain_side c.alternative-item.result c.as_slice.result.now c.as_slice.ensures.value) in
    omega (arith, e, c.in_ok-left.ensures, c.in_ok-checked_sub.ensures)

pub past_sides-returns-in_err-left : goal.past_sides-returns-in_err-left
past_sides-returns-in_err-left g t c =
    let e = count_next g.A.Atomic.states alternative_of c.args.alternatives.now c.loop-alternative.alternative-index
    c.alternative-item.result _ c.loop-alternative-test.true c.alternative-item.is
    (plain_side c.alternative-item.result c.as_slice.result.now c.as_slice.ensures.value) in
    rw c.from_residual-in_err-left.ensures (omega (arith, e, c.in_err-left.ensures, c.in_ok-checked_sub.ensures))
