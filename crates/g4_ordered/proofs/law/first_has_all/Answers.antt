use Rattle.g4_ordered.proofs.First as lists
use Rattle.g4_ordered.proofs.law.first_has_all.Goals as goal

pub returns : goal.returns
returns c = λ net starts list w d at. lists.first_has_all net starts list w d at
