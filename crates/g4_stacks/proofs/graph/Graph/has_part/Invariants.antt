use Rattle.g4_stacks.specs.Merge.{IsPart}
use Rattle.g4_stacks.proofs.graph.Graph.has_part.Given as goal

abbrev pub invariant-loop : goal.invariant-loop
invariant-loop l = IsPart l.fn.self l.fn.node l.at
