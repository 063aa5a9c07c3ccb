use Rattle.g4_ordered.proofs.Once as lists
use Rattle.g4_ordered.proofs.law.one_list.Goals as goal

pub returns : goal.returns
returns c = λ net starts list other w v h g. lists.one_list net starts w v list other h g
