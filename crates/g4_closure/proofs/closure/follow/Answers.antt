use Rattle.g4_closure.proofs.Closing.{extended_by}
use Rattle.g4_closure.proofs.Joining.{known_kept}
use Rattle.g4_closure.proofs.closure.follow.Goals as goal

pub add_all-requires-clause-waiting : goal.add_all-requires-clause-waiting
add_all-requires-clause-waiting c = known_kept c.args.set.now.graph c.successors.new.set.graph c.args.work.now.items
    c.successors.ensures.keeps c.requires.waiting

pub returns : goal.returns
returns c = extended_by c.args.net.now c.args.group c.args.set.now c.successors.new.set c.add_all.new.set c.args.work.now.items
    c.successors.new.found.items c.add_all.new.work.items
    c.requires.waiting c.successors.ensures.keeps c.successors.ensures.same c.in_ok-successors.ensures.means
    (rw c.as_slice.ensures.value at c.in_ok-add_all.ensures)
