use Rattle.g4_load.proofs.Trees.{have_their_trees}
use Rattle.g4_load.proofs.law.predicates_have_their_trees.Goals as goal

pub returns : goal.returns
returns c = λ files library name f g united loaded written unifies loads of.
    have_their_trees files library name c.predicates_have_their_texts.ensures f g united loaded written unifies loads of
