use Rattle.std.proofs.Common.{take}
use Rattle.g4_stacks.proofs.Shapes.{IsCopying}
use Rattle.g4_stacks.proofs.graph.Graph.canon.Given as goal

abbrev pub invariant-loop-root : goal.invariant-loop-root
invariant-loop-root l = IsCopying l.self (take l.root-index l.roots) l.copying.graph l.copying.known l.taken.items
