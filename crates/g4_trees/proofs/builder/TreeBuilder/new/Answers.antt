use Rattle.g4_trees.proofs.Steps.{starts}
use Rattle.g4_trees.proofs.builder.TreeBuilder.new.Goals as goal

-- src/builder.rt:31:5
pub returns : goal.returns
returns c = starts _ c.new.ensures.items c.new-2.ensures.items c.new-3.ensures.items
