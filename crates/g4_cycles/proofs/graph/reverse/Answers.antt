use Rattle.std.proofs.Common.{◌≡◌, ◌++◌, ◌+◌, length, take, drop, sym, ◌∙◌, ap, subst, arith}
use Rattle.g4_cycles.specs.Edges.{Graph, AddsReversed, successors_of}
use Rattle.g4_cycles.proofs.EdgesOf.{IsReverseBelow, reverse_goes_on, reverse_ends, came_back, row_at}
use Rattle.g4_cycles.proofs.graph.reverse.Goals as goal

pub loop-node-preserved : goal.loop-node-preserved
loop-node-preserved c =
    let graph = c.args.graph.now in
    let node = c.loop-node.node in
    let new = c.add_reversed.new.reversed in
    let back : take c.loop-node.reversed.len (new ++ drop (length new) c.loop-node.reversed.items) ≡ new =
    came_back c.loop-node.reversed.len new c.loop-node.reversed.items (omega arith) in
    let row : c.as_slice.result.now ≡ successors_of graph node =
    c.as_slice.ensures.value ∙ (ap (λ v. v.items) c.index-graph-node.is ∙ sym (row_at graph node _ c.loop-node-test.true)) in
    let adds : AddsReversed node c.as_slice.result.now c.loop-node.reversed.items new =
    subst (λ (g : Graph). AddsReversed node c.as_slice.result.now g new) c.deref_mut.ensures.value c.in_ok-add_reversed.ensures in
    subst (IsReverseBelow graph (node + 1)) (sym back)
    (reverse_goes_on graph c.loop-node.reversed.items new node c.as_slice.result.now row c.loop-node.invariant adds)

pub returns : goal.returns
returns c = reverse_ends c.args.graph.now c.loop-node.reversed.items c.loop-node.node c.loop-node-test.false c.loop-node.invariant
