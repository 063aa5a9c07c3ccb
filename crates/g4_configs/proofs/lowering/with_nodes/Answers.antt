use Rattle.g4_configs.proofs.Imaged.{with_more}
use Rattle.g4_configs.proofs.lowering.with_nodes.Goals as goal

pub loop-k-preserved : goal.loop-k-preserved
loop-k-preserved c = with_more c.args.groups.now c.loop-k.found.items c.push.new.self.items c.args.nodes.now c.loop-k.k _ _
    c.loop-k-test.true c.requires c.loop-k.invariant c.in_ok-push.ensures.items
