use Rattle.std.proofs.Common.{List, get_or, take, sym, subst}
use Rattle.g4_configs.specs.declared.group.Group.{Group}
use Rattle.g4_closure.specs.Framing.{AreHeld}
use Rattle.g4_closure.proofs.Held.{held_on}
use Rattle.g4_closure.proofs.Joining.{known_at, take_next}
use Rattle.g4_closure.proofs.framed.held_groups.Goals as goal

pub held_of-held-requires-clause-stacks : goal.held_of-held-requires-clause-stacks
held_of-held-requires-clause-stacks c = known_at c.args.set.now.graph c.args.groups.now c.loop-group.group-index _ c.requires.known
    c.loop-group-test.true

pub loop-group-preserved : goal.loop-group-preserved
loop-group-preserved c =
    subst (λ (xs : List Group). AreHeld c.args.net.now c.args.set.now xs c.push_held.new.found.items)
    (sym (take_next c.args.groups.now c.loop-group.group-index _ c.loop-group-test.true))
    (subst (AreHeld c.args.net.now c.args.set.now _) (sym c.in_ok-push_held.ensures)
    (held_on c.args.net.now c.args.set.now (take c.loop-group.group-index c.args.groups.now) c.loop-group.found.items
    (get_or c.args.groups.now c.loop-group.group-index _) c.held_of-held.result c.hold_of-hold.result c.loop-group.invariant
    c.hold_of-hold.ensures c.held_of-held.ensures.known c.held_of-held.ensures.means))
