use Rattle.std.proofs.Common.{subst, sym}
use Rattle.g4_configs.specs.Groups.{AreKnown}
use Rattle.g4_configs.proofs.Adding.{keeps_then}
use Rattle.g4_closure.proofs.Growing.{filled}
use Rattle.g4_closure.proofs.filling.fill.Goals as goal

pub add_in_order-requires : goal.add_in_order-requires
add_in_order-requires c = subst (AreKnown c.args.set.now.graph) (sym c.as_slice.ensures.value) c.in_ok-first.ensures.reached.known

pub returns-clause-keeps : goal.returns-clause-keeps
returns-clause-keeps c = keeps_then c.args.set.now.graph c.add_in_order.new.set.graph c.follow_all.new.set.graph
    c.in_ok-add_in_order.ensures.keeps c.in_ok-follow_all.ensures.keeps

pub returns-clause-sound : goal.returns-clause-sound
returns-clause-sound c = filled c.args.net.now c.args.set.now c.add_in_order.new.set c.follow_all.new.set c.args.starts.now
    c.in_ok-first.first.items c.requires.empty c.in_ok-first.ensures.reached
    (rw c.as_slice.ensures.value at c.in_ok-add_in_order.ensures) c.in_ok-follow_all.ensures
