use Rattle.std.proofs.Common.{◌≡◌, true, sym, length, get_or, slice_get, Some, subst}
use Rattle.std.proofs.lemmas.Option.{slice_get_read}
use Rattle.g4_cycles.specs.Edges.{EdgeOf, IsReverse}
use Rattle.g4_cycles.proofs.EdgesOf.{reversed_within}
use Rattle.g4_cycles.proofs.Settling.{none_more, acyclic_right, none_at_all}
use Rattle.g4_cycles.proofs.cycle.first_cycle.Goals as goal

pub acyclic_nodes-requires-clause-within : goal.acyclic_nodes-requires-clause-within
acyclic_nodes-requires-clause-within c = reversed_within c.args.successors.now c.as_slice.result.now
    (subst (IsReverse c.args.successors.now) (sym c.as_slice.ensures.value) c.in_ok-reversed.ensures)

pub loop-node-preserved-then-index : goal.loop-node-preserved-then-index
loop-node-preserved-then-index c =
    let graph = c.args.successors.now in
    let acyclic = c.in_ok-acyclic.acyclic.items in
    let node = c.loop-node.node in
    let reversed : IsReverse graph c.as_slice.result.now =
    subst (IsReverse graph) (sym c.as_slice.ensures.value) c.in_ok-reversed.ensures in
    let at : true ≡ get_or acyclic node true = subst (λ b. b ≡ get_or acyclic node b) c.if-index.true c.index.ensures in
    let marked : slice_get acyclic node ≡ Some true =
    slice_get_read acyclic (length graph) node true (sym c.in_ok-acyclic.ensures.size) c.loop-node-test.true at in
    none_more (EdgeOf graph) node c.loop-node.invariant
    (acyclic_right graph c.as_slice.result.now acyclic node reversed c.in_ok-acyclic.ensures.sound marked)

pub returns : goal.returns
returns c = none_at_all c.args.successors.now c.loop-node.node c.loop-node-test.false c.loop-node.invariant
