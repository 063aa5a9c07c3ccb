use Rattle.g4_stacks.proofs.Waiting.{IsStacked, work}
use Rattle.g4_stacks.proofs.graph.Graph.join.Given as goal

abbrev pub invariant-merges : goal.invariant-merges
invariant-merges l = IsStacked l.initial.self l.self l.a l.b l.waiting.items l.current

abbrev pub decreases-merges : goal.decreases-merges
decreases-merges l = work l.initial.self l.waiting.items l.current
