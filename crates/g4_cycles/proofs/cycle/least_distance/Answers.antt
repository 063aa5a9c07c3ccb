use Rattle.std.proofs.Common.{List, ℕ, subst}
use Rattle.std.proofs.lemmas.List.{take_all}
use Rattle.g4_cycles.specs.Marks.{HasDistance, IsLeast}
use Rattle.g4_cycles.proofs.Least.{distance_more}
use Rattle.g4_cycles.proofs.cycle.least_distance.Goals as goal

pub loop-node-preserved : goal.loop-node-preserved
loop-node-preserved c = distance_more c.args.distances.now c.args.nodes.now c.loop-node.node-index c.loop-node.least c.distance.result
    c.lesser-least.result c.loop-node-test.true c.distance.ensures c.lesser-least.ensures c.loop-node.invariant

pub returns : goal.returns
returns c = subst (λ (xs : List ℕ). IsLeast (HasDistance c.args.distances.now xs) c.loop-node.least)
    (take_all c.loop-node.node-index c.args.nodes.now c.loop-node-test.false) c.loop-node.invariant
