use Rattle.std.proofs.Common.{◌∙◌, ◌+◌, ◌||◌, ◌++◌, List, [], sym, ap, map, arith, append_assoc}
use Rattle.g4_source.specs.Elements.{Element, Alternatives, either}
use Rattle.g4_source.specs.Trees.{element_of, alternative_of, in_order}
use Rattle.g4_tree_check.specs.Children.{is_quiet, takes}
use Rattle.g4_tree_check.specs.Marks.{block_ends, ends, ends_all, ends_either, past, past_all, past_either, shift, shift_all, shift_either}
use Rattle.g4_tree_check.proofs.Nodes.{sides_from, atom_tree, block_tree, sides_more}
use Rattle.g4_tree_check.specs.TreesOf.{ReadsChildren}
use Rattle.g4_tree_check.proofs.Reading.{quiet_child}
use Rattle.g4_tree_check.proofs.Shifts.{body_ends}
use Rattle.g4_tree_check.proofs.Outcomes.{or-assoc}
use Rattle.g4_tree_check.proofs.shifting.+shifting.Goals as goal

pub shift_element-returns-in_ok-end-in-Atom-clause-marks : goal.shift_element-returns-in_ok-end-in-Atom-clause-marks
shift_element-returns-in_ok-end-in-Atom-clause-marks t c =
    c.in_ok-end-in-Atom.ensures.marks ∙ ap (λ (x : Element _). c.args.next.now.items
    ++ shift is_quiet (takes c.args.child) c.args.before x c.args.marks.now) (atom_tree c.args.element.now c.in-Atom.step c.in-Atom.is)

pub shift_element-returns-in_ok-end-in-Atom-clause-reached : goal.shift_element-returns-in_ok-end-in-Atom-clause-reached
shift_element-returns-in_ok-end-in-Atom-clause-reached t c =
    c.in_ok-end-in-Atom.ensures.reached ∙ ap (λ (x : Element _). ends is_quiet c.args.before x c.args.marks.now)
    (atom_tree c.args.element.now c.in-Atom.step c.in-Atom.is)

pub shift_element-returns-in_ok-end-in-Atom-clause-rest : goal.shift_element-returns-in_ok-end-in-Atom-clause-rest
shift_element-returns-in_ok-end-in-Atom-clause-rest t c =
    c.in_ok-end-in-Atom.ensures.rest ∙ ap (λ (x : Element _). past x c.args.marks.now)
    (atom_tree c.args.element.now c.in-Atom.step c.in-Atom.is)

pub shift_element-returns-in_ok-end-in-Block-clause-marks : goal.shift_element-returns-in_ok-end-in-Block-clause-marks
shift_element-returns-in_ok-end-in-Block-clause-marks t c =
    let tree = block_tree c.args.element.now c.in-Block.field-0 c.in-Block.repeat c.in-Block.alternatives c.as_slice.result.now
    c.in-Block.is c.as_slice.ensures.value in
    c.in_ok-end-in-Block.ensures.marks c.in-Block.field-0
    ∙ ap (λ (x : Element _). c.args.next.now.items ++ shift is_quiet (takes c.args.child) c.args.before x c.args.marks.now) tree

pub shift_element-returns-in_ok-end-in-Block-clause-reached : goal.shift_element-returns-in_ok-end-in-Block-clause-reached
shift_element-returns-in_ok-end-in-Block-clause-reached t c =
    let tree = block_tree c.args.element.now c.in-Block.field-0 c.in-Block.repeat c.in-Block.alternatives c.as_slice.result.now
    c.in-Block.is c.as_slice.ensures.value in
    c.in_ok-end-in-Block.ensures.reached c.in-Block.field-0 ∙ ap (λ (x : Element _). ends is_quiet c.args.before x c.args.marks.now) tree

pub shift_element-returns-in_ok-end-in-Block-clause-rest : goal.shift_element-returns-in_ok-end-in-Block-clause-rest
shift_element-returns-in_ok-end-in-Block-clause-rest t c =
    let tree = block_tree c.args.element.now c.in-Block.field-0 c.in-Block.repeat c.in-Block.alternatives c.as_slice.result.now
    c.in-Block.is c.as_slice.ensures.value in
    c.in_ok-end-in-Block.ensures.rest ∙ ap (λ (x : Element _). past x c.args.marks.now) tree

pub shift_block-returns-clause-reached : goal.shift_block-returns-clause-reached
shift_block-returns-clause-reached t c =
    let xs = either (map alternative_of c.args.alternatives.now) in
    let m = c.args.marks.now in λ label.
    c.block_ends.ensures
    ∙ ap (block_ends c.args.repeat c.args.before)
    (c.in_ok-body.ensures.reached ∙ ap (λ b. ends_either is_quiet b xs m) c.body_begins-begins.ensures)
    ∙ body_ends (ReadsChildren []) is_quiet (quiet_child []) c.args.repeat c.args.before xs m

pub shift_either-loop-alternative-preserved : goal.shift_either-loop-alternative-preserved
shift_either-loop-alternative-preserved t c =
    let all = c.args.alternatives.now in
    let i = c.loop-alternative.alternative-index in
    let rest = c.loop-alternative.rest.now in
    let x = in_order (map element_of c.as_slice.result.now) in
    let more = sides_more all i c.alternative-item.result c.as_slice.result.now (omega arith) c.alternative-item.is
    c.as_slice.ensures.value in
    let end = c.in_ok-end.ensures in
    let shifted : Alternatives _ → List _ → List _ = shift_either is_quiet (takes c.args.child) c.args.before in
    let first : List _ = shift_all is_quiet (takes c.args.child) c.args.before x rest in (
      ap (λ b. b || ends_either is_quiet c.args.before (sides_from all (i + 1)) c.in_ok-end.end.marks.now)
          (c.either_of-reached.ensures ∙ ap (λ b. c.loop-alternative.reached || b) end.reached)
          ∙ ap (λ (marks : List _). (c.loop-alternative.reached || ends_all is_quiet c.args.before x rest)
          || ends_either is_quiet c.args.before (sides_from all (i + 1)) marks) end.rest
          ∙ or-assoc c.loop-alternative.reached (ends_all is_quiet c.args.before x rest)
          (ends_either is_quiet c.args.before (sides_from all (i + 1)) (past_all x rest))
          ∙ ap (λ (xs : Alternatives _). c.loop-alternative.reached || ends_either is_quiet c.args.before xs rest) (sym more)
          ∙ c.loop-alternative.invariant.0,
      ap (past_either (sides_from all (i + 1))) end.rest ∙ ap (λ (xs : Alternatives _). past_either xs rest) (sym more)
          ∙ c.loop-alternative.invariant.1,
      ap (λ (made : List _). made ++ shifted (sides_from all (i + 1)) c.in_ok-end.end.marks.now) end.marks
          ∙ ap (λ (marks : List _). (c.loop-alternative.next.items ++ first) ++ shifted (sides_from all (i + 1)) marks) end.rest
          ∙ append_assoc c.loop-alternative.next.items first (shifted (sides_from all (i + 1)) (past_all x rest))
          ∙ ap (λ (xs : Alternatives _). c.loop-alternative.next.items ++ shifted xs rest) (sym more)
          ∙ c.loop-alternative.invariant.2,
    )
