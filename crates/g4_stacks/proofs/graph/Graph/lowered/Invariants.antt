use Rattle.std.proofs.Common.{◌≡◌, length}
use Rattle.g4_stacks.specs.Graph.{Keeps}
use Rattle.g4_stacks.specs.Lowering.{AreLowered}
use Rattle.g4_stacks.proofs.graph.Graph.lowered.Given as goal

abbrev pub invariant-loop-n : goal.invariant-loop-n
invariant-loop-n l = Keeps l.fn.self l.self × AreLowered l.self l.under l.images.items × (length l.images.items ≡ l.n)
