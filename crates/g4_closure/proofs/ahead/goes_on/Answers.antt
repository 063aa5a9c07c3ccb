use Rattle.g4_closure.proofs.Following.{followed_here, followed_next, kept_ahead}
use Rattle.g4_closure.proofs.ahead.goes_on.Goals as goal

pub loop-init : goal.loop-init
loop-init c = followed_here c.args.net.now c.args.set.now c.args.from c.requires.stacks

pub has_some-requires : goal.has_some-requires
has_some-requires c = c.loop.invariant.known

pub returns-in-Kept : goal.returns-in-Kept
returns-in-Kept c = λ so. kept_ahead c.args.net.now c.args.set.now c.args.from c.loop.at c.in-Kept.ensures (c.has_some.ensures so)
    c.loop.invariant

pub returned_to-requires-clause-stacks : goal.returned_to-requires-clause-stacks
returned_to-requires-clause-stacks c = c.loop.invariant.known

pub loop-preserved : goal.loop-preserved
loop-preserved c = followed_next c.args.net.now c.args.set.now c.args.from c.loop.at c.in-Some.next c.in-Ends.rule c.in-Ends.ensures
    c.in-Some.ensures c.loop.invariant
