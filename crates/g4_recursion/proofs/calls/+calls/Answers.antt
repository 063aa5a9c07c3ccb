use Rattle.std.proofs.Common.{◌≡◌, map, Some, subst, arith}
use Rattle.std.specs.List.{slice_get}
use Rattle.g4_source.specs.Elements.{either}
use Rattle.g4_source.specs.Trees.{element_of, alternative_of, in_order}
use Rattle.g4_recursion.proofs.Calling.{CallsElement, block_calls, calls_start, calls_step, calls_end, passed_start, passed_step, passed_stop, passed_end}
use Rattle.g4_recursion.proofs.Nodes.{atom_tree, block_tree, side_at, node_at}
use Rattle.g4_recursion.proofs.Trees.{mapped_past}
use Rattle.g4_recursion.proofs.calls.+calls.Goals as goal

pub of_element-returns-in_ok-answer-in-Atom : goal.of_element-returns-in_ok-answer-in-Atom
of_element-returns-in_ok-answer-in-Atom t c =
    λ rules told. subst (CallsElement rules c.in_ok-answer-in-Atom.answer c.args.calls.now.items c.of_lead.new.calls.items)
    (atom_tree c.args.element.now c.in-Atom.lead c.in-Atom.is) (c.in_ok-answer-in-Atom.ensures rules told)

pub of_element-returns-in_ok-body-in-Block : goal.of_element-returns-in_ok-body-in-Block
of_element-returns-in_ok-body-in-Block t c =
    let xs = either (map alternative_of c.as_slice.result.now) in
    let body = c.in_ok-body-in-Block.body in
    λ rules told.
    let one = c.in_ok-body-in-Block.ensures rules told in
    subst (CallsElement rules c.is_nullable_block.result c.args.calls.now.items c.of_either.new.calls.items)
    (block_tree c.args.element.now c.in-Block.field-0 c.in-Block.repeat c.in-Block.alternatives c.as_slice.result.now
    c.in-Block.is c.as_slice.ensures.value)
    (block_calls rules c.in-Block.field-0 c.in-Block.repeat xs body c.is_nullable_block.result c.args.calls.now.items
    c.of_either.new.calls.items one (c.is_nullable_block.ensures rules c.in-Block.field-0 xs one.nullable))

pub of_either-loop-alternative-init : goal.of_either-loop-alternative-init
of_either-loop-alternative-init t c = λ rules told. calls_start rules (map alternative_of c.args.alternatives.now) c.args.calls.now.items

pub of_either-loop-alternative-preserved : goal.of_either-loop-alternative-preserved
of_either-loop-alternative-preserved t c =
    let xs = map alternative_of c.args.alternatives.now in
    let i = c.loop-alternative.alternative-index in
    let x = in_order (map element_of c.as_slice.result.now) in
    let here : slice_get xs i ≡ Some x = side_at c.args.alternatives.now i c.alternative-item.result c.as_slice.result.now
    (omega arith) c.alternative-item.is c.as_slice.ensures.value in
    λ rules told. calls_step rules xs i x c.loop-alternative.found c.in_ok-one.one c.either_of-found.result c.args.calls.now.items
    c.loop-alternative.calls.items c.of_elements.new.calls.items here (c.in_ok-one.ensures rules told) c.either_of-found.ensures
    (c.loop-alternative.invariant rules told)

pub of_either-returns : goal.of_either-returns
of_either-returns t c = λ rules told. calls_end rules (map alternative_of c.args.alternatives.now)
    c.loop-alternative.alternative-index c.loop-alternative.found c.args.calls.now.items c.loop-alternative.calls.items
    (mapped_past alternative_of c.args.alternatives.now c.loop-alternative.alternative-index (omega arith))
    (c.loop-alternative.invariant rules told)

pub of_elements-loop-element-init : goal.of_elements-loop-element-init
of_elements-loop-element-init t c = λ rules told. passed_start rules (map element_of c.args.elements.now) c.args.calls.now.items

pub of_elements-returns-then-not-answer : goal.of_elements-returns-then-not-answer
of_elements-returns-then-not-answer t c =
    let xs = map element_of c.args.elements.now in
    let i = c.loop-element.element-index in
    λ rules told. passed_stop rules xs i (element_of c.element-item.result) c.in_ok-answer.answer c.args.calls.now.items
    c.loop-element.calls.items c.of_element.new.calls.items
    (node_at c.args.elements.now i c.element-item.result (omega arith) c.element-item.is)
    (c.in_ok-answer.ensures rules told) (c.loop-element.invariant rules told) c.if-not-answer.true

pub of_elements-loop-element-preserved : goal.of_elements-loop-element-preserved
of_elements-loop-element-preserved t c =
    let xs = map element_of c.args.elements.now in
    let i = c.loop-element.element-index in
    λ rules told. passed_step rules xs i (element_of c.element-item.result) c.in_ok-answer.answer c.args.calls.now.items
    c.loop-element.calls.items c.of_element.new.calls.items
    (node_at c.args.elements.now i c.element-item.result (omega arith) c.element-item.is)
    (c.in_ok-answer.ensures rules told) (c.loop-element.invariant rules told) c.if-not-answer.false

pub of_elements-returns : goal.of_elements-returns
of_elements-returns t c = λ rules told. passed_end rules (map element_of c.args.elements.now) c.loop-element.element-index
    c.args.calls.now.items c.loop-element.calls.items
    (mapped_past element_of c.args.elements.now c.loop-element.element-index (omega arith)) (c.loop-element.invariant rules told)
