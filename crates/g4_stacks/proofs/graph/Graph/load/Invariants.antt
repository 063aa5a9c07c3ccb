use Rattle.std.proofs.Common.{◌≡◌, length}
use Rattle.g4_stacks.proofs.Shapes.{IsLoading}
use Rattle.g4_stacks.proofs.graph.Graph.load.Given as goal

abbrev pub invariant-loop-held : goal.invariant-loop-held
invariant-loop-held l = (length l.numbers.items ≡ l.held-index) × IsLoading l.held-items l.initial.self l.self l.numbers.items
