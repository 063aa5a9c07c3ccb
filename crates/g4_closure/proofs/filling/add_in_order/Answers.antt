use Rattle.std.proofs.Common.{get_or}
use Rattle.g4_configs.specs.Groups.{InSome}
use Rattle.g4_closure.proofs.Growing.{grown_each, grown_none}
use Rattle.g4_closure.proofs.Joining.{known_at}
use Rattle.g4_closure.proofs.filling.add_in_order.Goals as goal

pub loop-item-init : goal.loop-item-init
loop-item-init c = grown_none c.args.set.now (InSome c.args.set.now.graph c.args.groups.now)

pub add-requires : goal.add-requires
add-requires c = (c.loop-item.invariant.keeps _ (known_at c.args.set.now.graph c.args.groups.now
    (get_or c.as_slice-item-items.result.now c.loop-item.item-index (0, 0)).1 (record { state = 0; alternative = 0; stacks = 0 })
    c.requires c.if-place-groups.false)).0

pub loop-item-preserved : goal.loop-item-preserved
loop-item-preserved c = grown_each c.args.set.now c.loop-item.set c.add.new.set c.args.groups.now
    (get_or c.as_slice-item-items.result.now c.loop-item.item-index (0, 0)).1 (record { state = 0; alternative = 0; stacks = 0 })
    c.if-place-groups.false c.requires c.loop-item.invariant c.in_ok-add.ensures
