use Rattle.std.proofs.Common.{◌≡◌, ◌-◌, ◌+◌, suc, refl, arith}
use Rattle.g4_cycles.specs.Edges.{EdgeOf}
use Rattle.g4_cycles.proofs.Shortest.{begun_first, begun_more, begun_last, leads_least}
use Rattle.g4_cycles.proofs.cycle.shortest_cycle.Goals as goal

pub loop-step-init : goal.loop-step-init
loop-step-init c = begun_first (EdgeOf c.args.graph.now) c.args.first c.args.distances.now c.in_ok-cycle.cycle.items
    (c.args.least - 0) c.args.least (omega arith) c.in_ok-cycle.ensures.items
    (leads_least c.args.graph.now c.args.distances.now c.args.first c.args.least _ refl c.requires.least)

pub loop-step-preserved : goal.loop-step-preserved
loop-step-preserved c =
    let left : c.args.least - c.loop-step.step ≡ suc (c.args.least - (c.loop-step.step + 1)) = omega (arith, c.loop-step-test.true) in
    begun_more c.args.graph.now c.args.first c.args.distances.now c.loop-step.cycle.items c.push.new.self.items c.loop-step.node
    c.in-Some.next (c.args.least - c.loop-step.step) (c.args.least - (c.loop-step.step + 1)) c.args.least c.row.result.now
    c.requires.distances left c.row.ensures c.in-Some.ensures c.in_ok-push.ensures.items c.loop-step.invariant

pub returns : goal.returns
returns c = begun_last (EdgeOf c.args.graph.now) c.args.first c.args.distances.now c.loop-step.cycle.items c.loop-step.node
    (c.args.least - c.loop-step.step) c.args.least c.requires.distances (omega (arith, c.loop-step-test.false)) c.loop-step.invariant
