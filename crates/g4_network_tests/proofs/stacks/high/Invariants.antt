use Rattle.g4_stacks.specs.Graph.{IsNode}
use Rattle.g4_network_tests.proofs.stacks.high.Given as goal

abbrev pub invariant-loop-state : goal.invariant-loop-state
invariant-loop-state l = IsNode l.graph l.left × IsNode l.graph l.right
