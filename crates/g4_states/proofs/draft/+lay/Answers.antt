use Rattle.std.proofs.Common.{arith, ◌∙◌, ap, length}
use Rattle.std.proofs.lemmas.Grind.{common_steps}
use Rattle.g4_layout.specs.Size.{states_of, states_in_order, states_of_bodies, one_state}
use Rattle.g4_states.specs.Trees.{tree_of, side_of, sides_of}
use Rattle.g4_states.proofs.Apart.{apart_with_sign, count_apart}
use Rattle.g4_states.proofs.Counts.{count_block, count_lone}
use Rattle.g4_states.proofs.Drafts.{step_laid, block_laid}
use Rattle.g4_states.proofs.Runs.{more_laid, all_laid, lone_laid, more_sides_at, all_sides}
use Rattle.g4_states.proofs.Lists.{length_pushed}
use Rattle.g4_states.proofs.Trees.{tree_atom, tree_block, side_run, lone_of, next_of, none_of, some_of, next_item, no_item}
use Rattle.g4_states.proofs.Weights.{weight, weight_of_run, weight_of_sides, weight_drop, sides_drop}
use Rattle.g4_states.proofs.draft.+lay.Goals as goal

pub lay_element-lay_step-requires-clause-room : goal.lay_element-lay_step-requires-clause-room
lay_element-lay_step-requires-clause-room g t c =
    let e = tree_atom g.A.Atom.step c.args.element.now c.in-Atom.atom c.in-Atom.is in
    omega (arith, c.requires.room, ap states_of e)

pub lay_element-lay_block-requires : goal.lay_element-lay_block-requires
lay_element-lay_block-requires g t c =
    let e = tree_block g.A.Atom.step c.args.element.now c.in-Block.field-0 c.in-Block.repeat c.in-Block.alternatives
    c.as_slice.result.now c.in-Block.is c.as_slice.ensures.value in
    let full = rw e at c.requires.full in
    let count = ap states_of e ∙ count_block one_state c.in-Block.field-0 c.in-Block.repeat
    (sides_of g.A.Atom.step c.as_slice.result.now) in
    λ _ h. (
      omega (arith, c.decreases, ap weight e),
      (h.0, (h.1, (full.0, (full.1, (c.requires.from, omega (arith, count, c.requires.room)))))),
    )

pub lay_element-returns-in_ok-next-in-Atom : goal.lay_element-returns-in_ok-next-in-Atom
lay_element-returns-in_ok-next-in-Atom g t c =
    let e = tree_atom g.A.Atom.step c.args.element.now c.in-Atom.atom c.in-Atom.is in
    rw (e, ← c.in_ok-step-in-Atom.ensures) (step_laid _ _ _ _ _ c.requires.from c.in_ok-next-in-Atom.ensures.0
    c.in_ok-next-in-Atom.ensures.1)

pub lay_element-returns-in_ok-last-in-Block : goal.lay_element-returns-in_ok-last-in-Block
lay_element-returns-in_ok-last-in-Block g t c =
    let e = tree_block g.A.Atom.step c.args.element.now c.in-Block.field-0 c.in-Block.repeat c.in-Block.alternatives
    c.as_slice.result.now c.in-Block.is c.as_slice.ensures.value in
    rw e (c.in_ok-last-in-Block.ensures c.in-Block.field-0)

pub lay_block-lay_once-requires : goal.lay_block-lay_once-requires
lay_block-lay_once-requires g t c = λ _ h. (
  omega (arith, c.decreases),
  (h.0, (h.1, (c.requires.some, (c.requires.full, (c.requires.from, rw c.in-Once.is at c.requires.room))))),
)

pub lay_block-lay_apart-requires : goal.lay_block-lay_apart-requires
lay_block-lay_apart-requires g t c =
    let apart = apart_with_sign c.args.repeat (length c.args.alternatives.now) c.in_default.not-Once
    (some_of (side_of g.A.Atom.step) c.args.alternatives.now c.requires.some) in
    λ _ h. (omega (arith, c.decreases), (h.0, (h.1, (apart, (c.requires.full, (c.requires.from, c.requires.room))))))

pub lay_block-returns-in-Once : goal.lay_block-returns-in-Once
lay_block-returns-in-Once g t c = rw c.in-Once.is c.lay_once.ensures

pub lay_once-lay_run-requires : goal.lay_once-lay_run-requires
lay_once-lay_run-requires g t c =
    let run = side_run g.A.Atom.step c.one-item.result c.as_slice.result.now c.as_slice.ensures.value in
    let e = lone_of (side_of g.A.Atom.step) c.args.alternatives.now c.one-item.result _ c.in-len1.len_at_least c.in-len1.len_below
    c.one-item.is run in
    let count = count_lone one_state (side_of g.A.Atom.step) c.args.alternatives.now c.one-item.result _ c.in-len1.len_at_least
    c.in-len1.len_below c.one-item.is run in
    let w = ap weight_of_sides e in
    λ _ h. (
      omega (arith, c.decreases),
      (
        h.0,
        (
          h.1,
          ((rw e at c.requires.full).0, (c.requires.from, omega (arith, count, c.requires.room))),
        ),
      ),
    )

pub lay_once-lay_apart-requires : goal.lay_once-lay_apart-requires
lay_once-lay_apart-requires g t c =
    let some = some_of (side_of g.A.Atom.step) c.args.alternatives.now c.requires.some in
    λ _ h. (omega (arith, c.decreases), (h.0, (h.1, (grind arith, (c.requires.full, (c.requires.from, c.requires.room))))))

pub lay_once-returns-in_ok-last-in-len1 : goal.lay_once-returns-in_ok-last-in-len1
lay_once-returns-in_ok-last-in-len1 g t c =
    let run = side_run g.A.Atom.step c.one-item.result c.as_slice.result.now c.as_slice.ensures.value in
    let e = lone_of (side_of g.A.Atom.step) c.args.alternatives.now c.one-item.result _ c.in-len1.len_at_least c.in-len1.len_below
    c.one-item.is run in
    rw e (lone_laid _ _ _ _ _ c.in_ok-last-in-len1.ensures)

pub lay_apart-lay_sides-requires : goal.lay_apart-lay_sides-requires
lay_apart-lay_sides-requires g t c =
    let count = count_apart one_state (side_of g.A.Atom.step) c.args.alternatives.now c.args.repeat c.requires.apart in
    λ _ h. (omega (arith, c.decreases), (h.0, (h.1, (c.requires.full, omega (arith, count, c.requires.room)))))

pub lay_apart-close-requires-clause-room : goal.lay_apart-close-requires-clause-room
lay_apart-close-requires-clause-room g t c =
    let count = count_apart one_state (side_of g.A.Atom.step) c.args.alternatives.now c.args.repeat c.requires.apart in
    omega (arith, count, c.requires.room, c.in_ok-bodies.ensures.laid.size)

pub lay_apart-returns : goal.lay_apart-returns
lay_apart-returns g t c =
    let count = count_apart one_state (side_of g.A.Atom.step) c.args.alternatives.now c.args.repeat c.requires.apart in
    block_laid _ _ _ _ _ _ _ _ _ c.requires.from c.in_ok-bodies.ensures.laid (rw c.in_ok-bodies.ensures.many c.requires.apart) count
    c.in_ok-last.ensures.last c.in_ok-last.ensures.states

pub lay_run-lay_element-requires : goal.lay_run-lay_element-requires
lay_run-lay_element-requires g t c =
    let e = next_item (tree_of g.A.Atom.step) c.args.elements.now c.loop-element.element-index c.element-item.result
    c.loop-element-test.true c.element-item.is in
    let full = rw e at c.loop-element.invariant.full in
    let size = c.loop-element.invariant.laid.size in
    let within = c.loop-element.invariant.laid.within in
    let count = ap states_in_order e in
    let w = weight_drop (tree_of g.A.Atom.step) c.args.elements.now c.loop-element.element-index in
    let v = ap weight_of_run e in
    λ _ h. (omega (arith, c.decreases), (h.0, (h.1, (full.0, (within, omega (arith, c.requires.room))))))

pub lay_run-loop-element-preserved : goal.lay_run-loop-element-preserved
lay_run-loop-element-preserved g t c =
    let e = next_item (tree_of g.A.Atom.step) c.args.elements.now c.loop-element.element-index c.element-item.result
    c.loop-element-test.true c.element-item.is in
    record {
      full = (rw e at c.loop-element.invariant.full).1;
      laid = more_laid _ _ _ _ _ _ _ _ _ c.requires.from (rw e at c.loop-element.invariant.laid) c.in_ok-last.ensures;
    }

pub lay_run-returns : goal.lay_run-returns
lay_run-returns g t c =
    let e = no_item (tree_of g.A.Atom.step) c.args.elements.now c.loop-element.element-index c.loop-element-test.false in
    all_laid _ _ _ _ _ (rw e at c.loop-element.invariant.laid)

pub lay_sides-overflow_cast-first : goal.lay_sides-overflow_cast-first
lay_sides-overflow_cast-first g t c =
    let size = c.loop-alternative.invariant.laid.size in
    grind (arith, common_steps, size, c.requires.room, c.len-first.ensures)

pub lay_sides-lay_run-requires : goal.lay_sides-lay_run-requires
lay_sides-lay_run-requires g t c =
    let run = side_run g.A.Atom.step c.alternative-item.result c.as_slice.result.now c.as_slice.ensures.value in
    let e = next_of (side_of g.A.Atom.step) c.args.alternatives.now c.loop-alternative.alternative-index c.alternative-item.result _
    c.loop-alternative-test.true c.alternative-item.is run in
    let full = rw e at c.loop-alternative.invariant.full in
    let size = c.loop-alternative.invariant.laid.size in
    let count = ap states_of_bodies e in
    let w = sides_drop (side_of g.A.Atom.step) c.args.alternatives.now c.loop-alternative.alternative-index in
    let v = ap weight_of_sides e in
    let pushed = length_pushed _ _ _ c.in_ok-push.ensures.items in
    λ _ h. (
      omega (arith, c.decreases),
      (
        h.0,
        (
          h.1,
          (full.0, (omega (arith, pushed, c.len-first.ensures, c.loop-alternative.states.ok.0), omega (arith, c.requires.room, pushed))),
        ),
      ),
    )

pub lay_sides-loop-alternative-preserved : goal.lay_sides-loop-alternative-preserved
lay_sides-loop-alternative-preserved g t c =
    let run = side_run g.A.Atom.step c.alternative-item.result c.as_slice.result.now c.as_slice.ensures.value in
    let e = next_of (side_of g.A.Atom.step) c.args.alternatives.now c.loop-alternative.alternative-index c.alternative-item.result _
    c.loop-alternative-test.true c.alternative-item.is run in
    record {
      full = (rw e at c.loop-alternative.invariant.full).1;
      many = omega (arith, length_pushed _ _ _ c.in_ok-push-2.ensures.items, c.loop-alternative.invariant.many);
      laid = more_sides_at _ _ _ _ _ _ _ _ _ _ _ _ _ c.in_ok-push.ensures.items
          (omega (arith, c.len-first.ensures, c.loop-alternative.states.ok.0)) c.in_ok-push-2.ensures.items
          c.in_ok-push-3.ensures.items (rw e at c.loop-alternative.invariant.laid) c.in_ok-last.ensures;
    }

pub lay_sides-returns-clause-laid : goal.lay_sides-returns-clause-laid
lay_sides-returns-clause-laid g t c =
    let e = none_of (side_of g.A.Atom.step) c.args.alternatives.now c.loop-alternative.alternative-index c.loop-alternative-test.false in
    all_sides _ _ _ _ _ (rw e at c.loop-alternative.invariant.laid)
