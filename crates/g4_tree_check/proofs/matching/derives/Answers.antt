use Rattle.std.proofs.Common.{◌≡◌, ◌↔◌, ◌∙◌, ◌++◌, List, Bool, true, map, get_or, sym, ap, subst, IsTrue, arith}
use Rattle.g4_source.specs.Elements.{Elements}
use Rattle.g4_source.specs.Trees.{element_of, in_order}
use Rattle.g4_tokens.specs.TokenList.{word_of}
use Rattle.g4_trees.specs.declared.tree.Item.{Item}
use Rattle.g4_trees.specs.declared.tree.Item.TheVariants as items
use Rattle.g4_tree_check.specs.Children.{child_of, is_quiet, takes}
use Rattle.g4_tree_check.specs.Marks.{ends_all, shift_all}
use Rattle.g4_tree_check.specs.TreesOf.{DerivesChildren}
use Rattle.g4_tree_check.proofs.Reached.{Stands, no_child, more_children, all_children}
use Rattle.g4_tree_check.proofs.matching.derives.Goals as goal

pub loop-head-init : goal.loop-head-init
loop-head-init c =
    let x = in_order (map element_of c.as_slice-elements.result.now) in
    subst (λ (marks : List Bool). Stands (word_of c.args.tokens.now) x c.args.heads.now true marks 0) (sym c.new-marks.ensures.items)
    (no_child (word_of c.args.tokens.now) x c.args.heads.now)

pub loop-head-preserved : goal.loop-head-preserved
loop-head-preserved c =
    let word = word_of c.args.tokens.now in
    let x = in_order (map element_of c.as_slice-elements.result.now) in
    let first = c.loop-head.first in
    let head : Item = get_or c.args.heads.now c.loop-head.head-index (items.Enter 0 0 0) in
    let made : c.swap.new.x.items ≡ shift_all is_quiet (takes (child_of word head)) first x c.loop-head.marks.items =
    ap (λ v. v.items) c.swap.ensures.x_after
    ∙ c.in_ok-shift_elements.ensures.marks
    ∙ ap (λ (old : List Bool). old ++ shift_all is_quiet (takes c.child_of-child.result) first x c.as_slice.result.now)
    c.clear.ensures.items
    ∙ ap (λ (marks : List Bool). shift_all is_quiet (takes c.child_of-child.result) first x marks) c.as_slice.ensures.value
    ∙ ap (λ child. shift_all is_quiet (takes child) first x c.loop-head.marks.items) c.child_of-child.ensures in
    more_children word x c.args.heads.now c.loop-head.head-index (items.Enter 0 0 0) first c.loop-head.marks.items c.swap.new.x.items
    (omega arith) made c.loop-head.invariant

pub returns : goal.returns
returns c =
    let word = word_of c.args.tokens.now in
    let x = in_order (map element_of c.as_slice-elements.result.now) in
    subst (λ (y : Elements _). IsTrue c.end_of_elements.result.reached ↔ DerivesChildren word y c.args.heads.now)
    c.as_slice-elements.ensures
    (all_children word x c.args.heads.now c.loop-head.head-index c.loop-head.first c.end_of_elements.result.reached
    c.loop-head.marks.items (omega arith)
    (c.end_of_elements.ensures.reached ∙ ap (λ (marks : List Bool). ends_all is_quiet c.loop-head.first x marks)
    c.as_slice-2.ensures.value) c.loop-head.invariant)
