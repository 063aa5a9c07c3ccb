use Rattle.g4_stacks.specs.Lowering.{IsLowering}
use Rattle.g4_stacks.proofs.graph.Graph.lowered_node.Given as goal

abbrev pub invariant-loop-entry : goal.invariant-loop-entry
invariant-loop-entry l = IsLowering l.fn.self l.self l.node l.under l.entry-items l.entry-index l.result
