use Rattle.std.proofs.Common.{rules, ◌∙◌, List, sym, subst}
use Rattle.g4_trees.specs.Appending.{Adds}
use Rattle.g4_trees.specs.TreeText.{text_of}
use Rattle.g4_trees.specs.declared.tree.Item.{Item}
use Rattle.g4_tokens.specs.declared.token.Tokens.{Tokens}
use Rattle.g4_patterns.specs.Lasts.{IsIndexed}
use Rattle.g4_patterns.specs.Places.{IsTreeAt}
use Rattle.g4_patterns.proofs.Printed.{adds_nothing, has_items, no_items}
use Rattle.g4_patterns.proofs.subject.Subject.print_node.Goals as goal

pub items_at-items-requires : goal.items_at-items-requires
items_at-items-requires g c = subst (λ (xs : List Item). IsIndexed xs c.ground-ground.result.lasts.now) (sym c.ground-ground.ensures.items)
    c.ground-ground.ensures.indexed

pub returns-then-is_empty-clause-tree : goal.returns-then-is_empty-clause-tree
returns-then-is_empty-clause-tree g c = λ t at.
    let there = subst (λ (xs : List Item). IsTreeAt xs c.args.node t) (sym c.ground-ground.ensures.items) at in
    absurd (has_items c.items_at-items.result.now t (c.items_at-items.ensures.tree t there) (sym c.is_empty.ensures ∙ c.if-is_empty.true))

pub returns-in_err-copy-clause-tree : goal.returns-in_err-copy-clause-tree
returns-in_err-copy-clause-tree g c = λ t at. adds_nothing _ _ _ _ c.from_residual.ensures.1

pub returns-clause-tree : goal.returns-clause-tree
returns-clause-tree g c = λ t at.
    let there = subst (λ (xs : List Item). IsTreeAt xs c.args.node t) (sym c.ground-ground.ensures.items) at in
    subst (λ (tokens : Tokens). Adds (text_of c.args.rules.now tokens t) c.args.out.now.items c.print.new.out.items c.print.result)
    c.ground-ground.ensures.tokens
    (c.print.ensures t (c.new-tree.ensures ∙ c.in_ok-copy.ensures.items_if_clones_equal (λ y is. search rules)
    ∙ c.items_at-items.ensures.tree t there))

pub returns-clause-none : goal.returns-clause-none
returns-clause-none g c = λ never.
    let none = c.items_at-items.ensures.none
    (λ t at. never t (subst (λ (xs : List Item). IsTreeAt xs c.args.node t) c.ground-ground.ensures.items at)) in
    absurd (no_items c.items_at-items.result.now none (sym c.is_empty.ensures ∙ c.if-is_empty.false))
