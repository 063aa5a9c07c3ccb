use Rattle.std.proofs.Common.{subst}
use Rattle.g4_stacks.specs.Canonical.{IsCanonical}
use Rattle.g4_stacks.proofs.Parts.{nothing_part}
use Rattle.g4_stacks.proofs.graph.Graph.part_of.Goals as goal

pub returns-in-None : goal.returns-in-None
returns-in-None c = nothing_part c.args.self.now c.args.node (subst IsCanonical c.self.view_is c.self.invariant.canonical)
