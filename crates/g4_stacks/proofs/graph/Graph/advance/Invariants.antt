use Rattle.g4_stacks.proofs.Steps.{IsAdvancing, steps_left}
use Rattle.g4_stacks.proofs.graph.Graph.advance.Given as goal

abbrev pub invariant-steps : goal.invariant-steps
invariant-steps l = IsAdvancing l.self l.initial.current l.current

abbrev pub decreases-steps : goal.decreases-steps
decreases-steps l = steps_left l.self l.initial.current.left l.initial.current.right l.current.i l.current.j
