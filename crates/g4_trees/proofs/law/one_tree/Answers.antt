use Rattle.g4_trees.proofs.Decoded.{same_tree}
use Rattle.g4_trees.proofs.law.one_tree.Goals as goal

pub returns : goal.returns
returns c = λ t u same. same_tree t u same
