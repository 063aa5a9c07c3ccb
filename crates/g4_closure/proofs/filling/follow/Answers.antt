use Rattle.std.proofs.Common.{subst, sym}
use Rattle.g4_configs.specs.Groups.{AreKnown}
use Rattle.g4_closure.proofs.Growing.{followed, found_known}
use Rattle.g4_closure.proofs.filling.follow.Goals as goal

pub add_each-requires : goal.add_each-requires
add_each-requires c = subst (AreKnown c.successors.new.set.graph) (sym c.as_slice.ensures.value)
    (found_known c.args.net.now c.args.set.now c.successors.new.set c.args.group c.successors.ensures.keeps c.requires.stacks
    c.successors.new.found.items c.push_after.new.found.items c.in_ok-successors.ensures.known c.in_ok-push_after.ensures)

pub returns : goal.returns
returns c = followed c.args.net.now c.args.set.now c.successors.new.set c.args.group c.successors.ensures.keeps c.requires.stacks
    c.add_each.new.set c.successors.new.found.items c.push_after.new.found.items c.successors.ensures.same
    c.in_ok-successors.ensures.means c.in_ok-push_after.ensures (rw c.as_slice.ensures.value at c.in_ok-add_each.ensures)
