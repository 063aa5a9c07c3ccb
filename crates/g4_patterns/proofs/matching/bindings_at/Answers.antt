use Rattle.std.proofs.Common.{◌≡◌, ◌∙◌, ◌+◌, List, [], drop, get_or, sym, ap, arith, append-nil}
use Rattle.std.specs.Prelude.{Some}
use Rattle.g4_trees.specs.declared.tree.Item.TheVariants as items
use Rattle.g4_patterns.specs.declared.binding.Binding.{Binding}
use Rattle.g4_patterns.specs.declared.stand.Stand.{Stand}
use Rattle.g4_patterns.specs.Walking.{before, bindings_of, walk}
use Rattle.g4_patterns.proofs.Steps.{before_more, item_found, item_lost, none_left}
use Rattle.g4_patterns.proofs.Walks.{before_none}
use Rattle.g4_patterns.proofs.matching.bindings_at.Goals as goal

pub loop-item-init : goal.loop-item-init
loop-item-init c =
    let g = c.args.ground.now in
    let w = walk g.items.now g.lasts.now g.tokens.now c.args.tokens.now c.start-stand.result c.args.items.now in
    sym (ap (λ (bs : List Binding). before bs w) c.new-bindings.ensures.items ∙ before_none w
    ∙ ap (λ (s : Stand). walk g.items.now g.lasts.now g.tokens.now c.args.tokens.now s c.args.items.now) c.start-stand.ensures)

pub returns-in_default : goal.returns-in_default
returns-in_default c =
    let g = c.args.ground.now in
    sym (c.loop-item.invariant ∙ ap (before c.loop-item.bindings.items) (item_lost c.args.tokens.now g.items.now g.lasts.now g.tokens.now
    c.loop-item.stand c.args.items.now c.loop-item.item-index (items.Enter 0 0 0) (omega arith) c.in_default.ensures))

pub loop-item-preserved : goal.loop-item-preserved
loop-item-preserved c =
    let g = c.args.ground.now in
    let old = c.loop-item.bindings.items in
    let next = c.in-Some.step in
    let cs = bindings_of c.args.tokens.now (get_or c.args.items.now c.loop-item.item-index (items.Enter 0 0 0)) next.bound in
    let w = walk g.items.now g.lasts.now g.tokens.now c.args.tokens.now next.next
    (drop (c.loop-item.item-index + 1) c.args.items.now) in
    c.loop-item.invariant ∙ ap (before old) (item_found c.args.tokens.now g.items.now g.lasts.now g.tokens.now
    c.loop-item.stand c.args.items.now c.loop-item.item-index (items.Enter 0 0 0) next (omega arith) c.in-Some.ensures)
    ∙ before_more old cs w ∙ ap (λ (bs : List Binding). before bs w) (sym c.in_ok-push_binding.ensures)

pub returns : goal.returns
returns c =
    let g = c.args.ground.now in
    let bs = c.loop-item.bindings.items in
    let whole : before bs (Some []) ≡ Some bs = ap (λ (cs : List Binding). Some cs) (append-nil bs) in
    ap (λ (cs : List Binding). Some cs) c.new.ensures
    ∙ sym (c.loop-item.invariant ∙ ap (before bs) (none_left c.args.tokens.now g.items.now g.lasts.now g.tokens.now
    c.loop-item.stand c.args.items.now c.loop-item.item-index (omega arith)) ∙ whole)
