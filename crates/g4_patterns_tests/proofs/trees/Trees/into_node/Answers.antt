use Rattle.std.proofs.Common.{◌≡◌, List, ◌∷◌, [], ◌++◌, ◌∙◌, ap}
use Rattle.g4_trees.specs.declared.tree.Item.{Item}
use Rattle.g4_trees.specs.declared.tree.Item.TheVariants as items
use Rattle.g4_patterns_tests.proofs.Built.{node_alone}
use Rattle.g4_patterns_tests.proofs.trees.Trees.into_node.Goals as goal

pub returns : goal.returns
returns c =
    let ys = c.self.inside.items.items in
    let enter = items.Enter c.args.rule c.args.alt c.args.at in
    let entered : c.push.new.self.items ≡ [] ++ enter ∷ [] = cc (c.new-items.ensures.items, c.in_ok-push.ensures.items) in
    let children : c.extend_from_slice.new.self.items ≡ ([] ++ enter ∷ []) ++ ys =
    cc (entered, c.in_ok-extend_from_slice.ensures.items, c.as_slice.ensures.value) in
    let left : c.push-2.new.self.items ≡ (([] ++ enter ∷ []) ++ ys) ++ items.Exit ∷ [] = cc (children, c.in_ok-push-2.ensures.items) in
    node_alone ys c.new.result c.args.rule c.args.alt c.args.at c.self.invariant (c.new.ensures ∙ left)
