use Rattle.std.proofs.Common.{◌∙◌, sym, ap, arith}
use Rattle.g4_trees.specs.declared.tree.Item.TheVariants as items
use Rattle.g4_patterns.specs.Walking.{all_found}
use Rattle.g4_patterns.proofs.Steps.{found_before, item_found, item_lost, none_left}
use Rattle.g4_patterns.proofs.matching.is_found.Goals as goal

pub returns-in_default : goal.returns-in_default
returns-in_default c =
    let g = c.args.ground.now in
    sym (c.loop-item.invariant ∙ ap all_found (item_lost c.args.tokens.now g.items.now g.lasts.now g.tokens.now c.loop-item.stand
    c.args.items.now c.loop-item.item-index (items.Enter 0 0 0) (omega arith) c.in_default.ensures))

pub loop-item-preserved : goal.loop-item-preserved
loop-item-preserved c =
    let g = c.args.ground.now in
    c.loop-item.invariant ∙ ap all_found (item_found c.args.tokens.now g.items.now g.lasts.now g.tokens.now c.loop-item.stand
    c.args.items.now c.loop-item.item-index (items.Enter 0 0 0) c.in-Some.step (omega arith) c.in-Some.ensures)
    ∙ found_before _ _

pub returns : goal.returns
returns c =
    let g = c.args.ground.now in
    sym (c.loop-item.invariant ∙ ap all_found (none_left c.args.tokens.now g.items.now g.lasts.now g.tokens.now
    c.loop-item.stand c.args.items.now c.loop-item.item-index (omega arith)))
