use Rattle.std.proofs.Common.{◌≡◌, List, false, map, Some, refl, sym, subst, arith}
use Rattle.std.specs.List.{slice_get}
use Rattle.g4_source.specs.declared.element.Repeat.{Repeat}
use Rattle.g4_source.specs.declared.element.Repeat.TheVariants.{Once, Optional, Star, Plus}
use Rattle.g4_source.specs.Elements.{block, Alternatives, either}
use Rattle.g4_source.specs.Trees.{element_of, alternative_of, in_order}
use Rattle.g4_recursion.specs.declared.lead.Lead.{Lead}
use Rattle.g4_recursion.specs.declared.loops.Found.{Found}
use Rattle.g4_recursion.proofs.Looping.{TellsElement, atom_told, once_told, optional_told, star_told, plus_told, either_start, either_step, either_end, in_order_start, in_order_step, in_order_end}
use Rattle.g4_recursion.proofs.Nodes.{atom_tree, block_tree, side_at, node_at}
use Rattle.g4_recursion.proofs.Trees.{mapped_past}
use Rattle.g4_recursion.proofs.loops.+loops.Goals as goal

-- what is found of a block with this repeat
so_often : (rules : List (Alternatives Lead)) (found : Found) (label : _) (repeat r : Repeat) (xs : Alternatives Lead) → repeat ≡ r
    → TellsElement rules found (block label r xs) → TellsElement rules found (block label repeat xs)
so_often rules found label repeat r xs is t = subst (λ (q : Repeat). TellsElement rules found (block label q xs)) (sym is) t

pub of_element-returns-in-Atom : goal.of_element-returns-in-Atom
of_element-returns-in-Atom t c =
    let found : Found = record { nullable = c.is_nullable.result; looped = false } in
    λ rules told. subst (TellsElement rules found) (atom_tree c.args.element.now c.in-Atom.lead c.in-Atom.is)
    (atom_told rules c.in-Atom.lead found (c.is_nullable.ensures rules told) refl)

pub of_element-returns-in-Block : goal.of_element-returns-in-Block
of_element-returns-in-Block t c =
    λ rules told. subst (TellsElement rules c.of_block.result)
    (block_tree c.args.element.now c.in-Block.field-0 c.in-Block.repeat c.in-Block.alternatives c.as_slice.result.now
    c.in-Block.is c.as_slice.ensures.value) (c.of_block.ensures rules told c.in-Block.field-0)

pub of_block-returns-in-Once : goal.of_block-returns-in-Once
of_block-returns-in-Once t c =
    let xs = either (map alternative_of c.args.alternatives.now) in
    λ rules told label. so_often rules _ label c.args.repeat Once xs c.in-Once.is
    (once_told rules label xs c.of_either-body.result (c.of_either-body.ensures rules told))

pub of_block-returns-in-Optional : goal.of_block-returns-in-Optional
of_block-returns-in-Optional t c =
    let xs = either (map alternative_of c.args.alternatives.now) in
    λ rules told label. so_often rules _ label c.args.repeat (Optional c.in-Optional.field-0) xs c.in-Optional.is
    (optional_told rules label c.in-Optional.field-0 xs c.of_either-body.result (c.of_either-body.ensures rules told))

pub of_block-returns-in-Star : goal.of_block-returns-in-Star
of_block-returns-in-Star t c =
    let xs = either (map alternative_of c.args.alternatives.now) in
    λ rules told label. so_often rules _ label c.args.repeat (Star c.in-Star.field-0) xs c.in-Star.is
    (star_told rules label c.in-Star.field-0 xs c.of_either-body.result c.loops.result (c.of_either-body.ensures rules told)
    c.loops.ensures)

pub of_block-returns-in-Plus : goal.of_block-returns-in-Plus
of_block-returns-in-Plus t c =
    let xs = either (map alternative_of c.args.alternatives.now) in
    λ rules told label. so_often rules _ label c.args.repeat (Plus c.in-Plus.field-0) xs c.in-Plus.is
    (plus_told rules label c.in-Plus.field-0 xs c.of_either-body.result c.loops-in-Plus.result
    (c.of_either-body.ensures rules told) c.loops-in-Plus.ensures)

pub of_either-loop-alternative-init : goal.of_either-loop-alternative-init
of_either-loop-alternative-init t c = λ rules told. either_start rules (map alternative_of c.args.alternatives.now)

pub of_either-loop-alternative-preserved : goal.of_either-loop-alternative-preserved
of_either-loop-alternative-preserved t c =
    let xs = map alternative_of c.args.alternatives.now in
    let i = c.loop-alternative.alternative-index in
    let x = in_order (map element_of c.as_slice.result.now) in
    let here : slice_get xs i ≡ Some x = side_at c.args.alternatives.now i c.alternative-item.result c.as_slice.result.now
    (omega arith) c.alternative-item.is c.as_slice.ensures.value in
    λ rules told. either_step rules xs i x c.loop-alternative.found c.of_elements.result c.or-found.result here
    (c.of_elements.ensures rules told) c.or-found.ensures.nullable c.or-found.ensures.looped (c.loop-alternative.invariant rules told)

pub of_either-returns : goal.of_either-returns
of_either-returns t c = λ rules told. either_end rules (map alternative_of c.args.alternatives.now)
    c.loop-alternative.alternative-index c.loop-alternative.found
    (mapped_past alternative_of c.args.alternatives.now c.loop-alternative.alternative-index (omega arith))
    (c.loop-alternative.invariant rules told)

pub of_elements-loop-element-init : goal.of_elements-loop-element-init
of_elements-loop-element-init t c = λ rules told. in_order_start rules (map element_of c.args.elements.now)

pub of_elements-loop-element-preserved : goal.of_elements-loop-element-preserved
of_elements-loop-element-preserved t c =
    let xs = map element_of c.args.elements.now in
    let i = c.loop-element.element-index in
    let x = element_of c.element-item.result in
    λ rules told. in_order_step rules xs i x c.loop-element.found c.of_element.result c.then-found.result
    (node_at c.args.elements.now i c.element-item.result (omega arith) c.element-item.is) (c.of_element.ensures rules told)
    c.then-found.ensures.nullable c.then-found.ensures.looped (c.loop-element.invariant rules told)

pub of_elements-returns : goal.of_elements-returns
of_elements-returns t c = λ rules told. in_order_end rules (map element_of c.args.elements.now) c.loop-element.element-index
    c.loop-element.found (mapped_past element_of c.args.elements.now c.loop-element.element-index (omega arith))
    (c.loop-element.invariant rules told)
