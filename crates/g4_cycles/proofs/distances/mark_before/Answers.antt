use Rattle.std.proofs.Common.{[], refl}
use Rattle.g4_cycles.specs.Marks.{LeadsTo}
use Rattle.g4_cycles.proofs.EdgesOf.{nothing_in}
use Rattle.g4_cycles.proofs.Marking.{marked_none, level_goes_on, level_ends}
use Rattle.g4_cycles.proofs.distances.mark_before.Goals as goal

pub loop-node-init : goal.loop-node-init
loop-node-init c = marked_none c.args.distance (LeadsTo c.args.reversed.now []) c.args.distances.now c.args.found.now.items
    (λ k wanted. nothing_in [] wanted.0 refl wanted.1)

pub loop-node-preserved : goal.loop-node-preserved
loop-node-preserved c = level_goes_on c.args.distance c.args.distances.now c.loop-node.distances c.mark.new.distances
    c.args.found.now.items c.loop-node.found.items c.mark.new.found.items c.args.reversed.now c.args.level.now c.loop-node.node-index
    c.row.result.now
    c.loop-node-test.true c.row.ensures c.loop-node.invariant c.in_ok-mark.ensures

pub returns : goal.returns
returns c = level_ends c.args.distance c.args.distances.now c.loop-node.distances c.args.found.now.items c.loop-node.found.items
    c.args.reversed.now c.args.level.now c.loop-node.node-index c.loop-node-test.false c.loop-node.invariant
