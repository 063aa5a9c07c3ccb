use Rattle.g4_trees.specs.Trees.{no_tree}
use Rattle.g4_patterns_tests.proofs.trees.Trees.new.Goals as goal

pub invariant_of-result : goal.invariant_of-result
invariant_of-result c = (no_tree, c.new.ensures.items)
