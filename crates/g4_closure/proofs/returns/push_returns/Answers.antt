use Rattle.g4_closure.proofs.Returned.{followed_end}
use Rattle.g4_closure.proofs.returns.push_returns.Goals as goal

pub returns : goal.returns
returns c = followed_end c.args.net.now c.args.set.now c.args.group c.in-Some.rule c.returned.new.found.items c.args.found.now.items
    c.push_new.new.found.items (c.requires.ends c.args.group.state c.in-Some.rule c.in-Some.ensures) c.in_ok-returned.ensures.known
    c.in_ok-returned.ensures.means c.requires.known (rw c.as_slice.ensures.value at c.in_ok-push_new.ensures)
