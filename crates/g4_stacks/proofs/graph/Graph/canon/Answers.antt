use Rattle.std.proofs.Common.{rules, ◌≡◌, ◌≤◌, ℕ, Some, length}
use Rattle.std.specs.Ordering.{nat_cmp}
use Rattle.std.specs.BTreeMap.{get}
use Rattle.g4_stacks.proofs.Shapes.{copying_none, copying_more, copied_means}
use Rattle.g4_stacks.proofs.graph.Graph.canon.Goals as goal

pub loop-root-init : goal.loop-root-init
loop-root-init c =
    let unknown : (n r : ℕ) → get nat_cmp c.new-2.result n ≡ Some r → ⊥ = search rules in
    copying_none c.args.self.now c.in_ok-new.field-0 c.new-taken.result.items c.new-2.result c.in_ok-new.ensures
    c.new-taken.ensures.items unknown

pub loop-root-preserved : goal.loop-root-preserved
loop-root-preserved c =
    copying_more c.args.self.now c.loop-root.copying.graph c.take.new.self.graph c.args.roots.now c.loop-root.taken.items
    c.push.new.self.items c.loop-root.root-index c.in_ok-node.node c.loop-root.copying.known c.take.new.self.known
    c.loop-root.invariant c.loop-root-test.true c.in_ok-node.ensures.takes c.in_ok-node.ensures.known c.in_ok-push.ensures.items

pub returns : goal.returns
returns c =
    let all : length c.args.roots.now ≤ c.loop-root.root-index = search rules in
    let same : c.in_ok-nodes.nodes.items ≡ c.loop-root.copying.graph = search rules in
    copied_means c.args.self.now c.loop-root.copying.graph c.in_ok-nodes.nodes.items c.args.roots.now c.loop-root.taken.items
    c.loop-root.root-index c.loop-root.copying.known c.is_canonical.ensures c.loop-root.invariant all same
