use Rattle.std.proofs.Common.{rules, ◌<◌, length}
use Rattle.g4_configs.specs.Groups.{InSome}
use Rattle.g4_closure.proofs.Growing.{grown_each, grown_none}
use Rattle.g4_closure.proofs.Joining.{known_at}
use Rattle.g4_closure.proofs.filling.add_each.Goals as goal

pub loop-group-init : goal.loop-group-init
loop-group-init c = grown_none c.args.set.now (InSome c.args.set.now.graph c.args.groups.now)

pub add-requires : goal.add-requires
add-requires c =
    let lt : c.loop-group.group-index < length c.args.groups.now = search rules in
    (c.loop-group.invariant.keeps _ (known_at c.args.set.now.graph c.args.groups.now c.loop-group.group-index
    (record { state = 0; alternative = 0; stacks = 0 }) c.requires lt)).0

pub loop-group-preserved : goal.loop-group-preserved
loop-group-preserved c =
    let lt : c.loop-group.group-index < length c.args.groups.now = search rules in
    grown_each c.args.set.now c.loop-group.set c.add.new.set c.args.groups.now c.loop-group.group-index
    (record { state = 0; alternative = 0; stacks = 0 }) lt c.requires c.loop-group.invariant c.in_ok-add.ensures
