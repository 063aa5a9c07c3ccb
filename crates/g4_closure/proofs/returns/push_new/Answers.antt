use Rattle.std.proofs.Common.{rules, ◌<◌, length}
use Rattle.g4_closure.proofs.Returned.{more_next}
use Rattle.g4_closure.proofs.returns.push_new.Goals as goal

pub loop-group-preserved : goal.loop-group-preserved
loop-group-preserved c =
    let lt : c.loop-group.group-index < length c.args.groups.now = search rules in
    more_next c.args.groups.now c.args.found.now.items c.loop-group.found.items c.push.new.self.items c.loop-group.group-index
    (record { state = 0; alternative = 0; stacks = 0 }) lt c.in_ok-push.ensures.items c.loop-group.invariant
