use Rattle.g4_configs.specs.Configs.{Holds}
use Rattle.g4_configs.specs.Groups.{group_of}
use Rattle.g4_closure.specs.Steps.{ReachedFrom}
use Rattle.g4_closure.proofs.Growing.{followed_on, grown_none}
use Rattle.g4_closure.proofs.filling.follow_all.Goals as goal

pub loop-init : goal.loop-init
loop-init c = grown_none c.args.set.now (ReachedFrom c.args.net.now (Holds c.args.set.now))

pub loop-preserved : goal.loop-preserved
loop-preserved c = followed_on c.args.net.now c.args.set.now c.loop.set c.follow.new.set
    (group_of ((c.in-Some.next.1, c.in-Some.next.2), c.in-Some-stacks_at.stacks)) c.in-Some-stacks_at.ensures.held
    c.loop.invariant c.in_ok-follow.ensures
