use Rattle.std.proofs.Common.{◌∙◌, ◌+◌, ◌||◌, List, sym, ap, map, arith}
use Rattle.g4_source.specs.Elements.{Element, Alternatives}
use Rattle.g4_source.specs.Trees.{element_of, in_order}
use Rattle.g4_tree_check.specs.Children.{is_quiet}
use Rattle.g4_tree_check.specs.Marks.{block_ends, ends, ends_all, ends_either, past, past_all, past_either}
use Rattle.g4_tree_check.proofs.Nodes.{sides_from, atom_tree, block_tree, sides_more}
use Rattle.g4_tree_check.proofs.Outcomes.{or-assoc}
use Rattle.g4_tree_check.proofs.ending.+ending.Goals as goal

pub end_of_element-returns-in-Atom-clause-reached : goal.end_of_element-returns-in-Atom-clause-reached
end_of_element-returns-in-Atom-clause-reached t c =
    c.end_of_atom.ensures.reached ∙ ap (λ (x : Element _). ends is_quiet c.args.before x c.args.marks.now)
    (atom_tree c.args.element.now c.in-Atom.step c.in-Atom.is)

pub end_of_element-returns-in-Atom-clause-marks : goal.end_of_element-returns-in-Atom-clause-marks
end_of_element-returns-in-Atom-clause-marks t c =
    c.end_of_atom.ensures.marks ∙ ap (λ (x : Element _). past x c.args.marks.now) (atom_tree c.args.element.now c.in-Atom.step c.in-Atom.is)

pub end_of_element-returns-in-Block-clause-reached : goal.end_of_element-returns-in-Block-clause-reached
end_of_element-returns-in-Block-clause-reached t c =
    let tree = block_tree c.args.element.now c.in-Block.field-0 c.in-Block.repeat c.in-Block.alternatives c.as_slice.result.now
    c.in-Block.is c.as_slice.ensures.value in
    c.block_ends.ensures ∙ ap (block_ends c.in-Block.repeat c.args.before) c.end_of_either-body.ensures.reached
    ∙ ap (λ (x : Element _). ends is_quiet c.args.before x c.args.marks.now) tree

pub end_of_element-returns-in-Block-clause-marks : goal.end_of_element-returns-in-Block-clause-marks
end_of_element-returns-in-Block-clause-marks t c =
    let tree = block_tree c.args.element.now c.in-Block.field-0 c.in-Block.repeat c.in-Block.alternatives c.as_slice.result.now
    c.in-Block.is c.as_slice.ensures.value in
    c.end_of_either-body.ensures.marks ∙ ap (λ (x : Element _). past x c.args.marks.now) tree

pub end_of_either-loop-alternative-preserved : goal.end_of_either-loop-alternative-preserved
end_of_either-loop-alternative-preserved t c =
    let all = c.args.alternatives.now in
    let i = c.loop-alternative.alternative-index in
    let rest = c.loop-alternative.rest.now in
    let x = in_order (map element_of c.as_slice.result.now) in
    let more = sides_more all i c.alternative-item.result c.as_slice.result.now (omega arith) c.alternative-item.is
    c.as_slice.ensures.value in
    let end = c.end_of_elements-end.ensures in (
      ap (λ b. b || ends_either is_quiet c.args.before (sides_from all (i + 1)) c.end_of_elements-end.result.marks.now)
          (c.either_of-reached.ensures ∙ ap (λ b. c.loop-alternative.reached || b) end.reached)
          ∙ ap (λ (marks : List _). (c.loop-alternative.reached || ends_all is_quiet c.args.before x rest)
          || ends_either is_quiet c.args.before (sides_from all (i + 1)) marks) end.marks
          ∙ or-assoc c.loop-alternative.reached (ends_all is_quiet c.args.before x rest)
          (ends_either is_quiet c.args.before (sides_from all (i + 1)) (past_all x rest))
          ∙ ap (λ (xs : Alternatives _). c.loop-alternative.reached || ends_either is_quiet c.args.before xs rest) (sym more)
          ∙ c.loop-alternative.invariant.0,
      ap (past_either (sides_from all (i + 1))) end.marks ∙ ap (λ (xs : Alternatives _). past_either xs rest) (sym more)
          ∙ c.loop-alternative.invariant.1,
    )
