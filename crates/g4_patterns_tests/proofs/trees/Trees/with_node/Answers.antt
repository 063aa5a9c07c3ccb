use Rattle.std.proofs.Common.{◌≡◌, ◌∷◌, [], ◌++◌}
use Rattle.g4_trees.specs.declared.tree.Item.TheVariants as items
use Rattle.g4_patterns_tests.proofs.Built.{node_after}
use Rattle.g4_patterns_tests.proofs.trees.Trees.with_node.Goals as goal

pub invariant_of-result : goal.invariant_of-result
invariant_of-result c =
    let xs = c.self.inside.items.items in
    let ys = c.children.inside.items.items in
    let all : c.push-2.new.self.items ≡ ((xs ++ items.Enter c.args.rule c.args.alt c.args.at ∷ []) ++ ys) ++ items.Exit ∷ [] =
    cc (c.in_ok-push.ensures.items, c.in_ok-extend_from_slice.ensures.items, c.in_ok-push-2.ensures.items, c.as_slice.ensures.value) in
    node_after xs ys c.push-2.new.self.items c.args.rule c.args.alt c.args.at c.self.invariant c.children.invariant all
