use Rattle.std.proofs.Common.{◌∙◌}
use Rattle.g4_stacks.proofs.Below.{part_alike}
use Rattle.g4_stacks.proofs.graph.Graph.part.Goals as goal

pub returns : goal.returns
returns c = part_alike c.args.self.now c.load.new.self c.args.roots.now c.in_ok-nodes.nodes.items c.is_canonical.ensures
    c.is_canonical-2.ensures c.in_ok-nodes.ensures.known (c.in_ok-nodes.ensures.means ∙ c.in_ok-shape.ensures)
