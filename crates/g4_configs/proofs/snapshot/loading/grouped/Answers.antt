use Rattle.g4_configs.proofs.Loading.{one_more}
use Rattle.g4_configs.proofs.snapshot.loading.grouped.Goals as goal

pub loop-k-preserved : goal.loop-k-preserved
loop-k-preserved c = one_more c.args.keys.now c.loop-k.groups.items c.push.new.self.items c.args.stacks.now c.loop-k.k _ _
    c.loop-k-test.true c.requires c.loop-k.invariant c.in_ok-push.ensures.items
