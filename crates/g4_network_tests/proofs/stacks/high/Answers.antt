use Rattle.g4_network_tests.proofs.stacks.high.Goals as goal

pub push-requires-in-loop-state : goal.push-requires-in-loop-state
push-requires-in-loop-state c = (c.push.ensures.keeps c.loop-state.right c.loop-state.invariant.1).0
