use Rattle.g4_ordered.proofs.Repetitions as lists
use Rattle.g4_ordered.proofs.law.no_repetition.Goals as goal

pub returns : goal.returns
returns c = λ net starts list w v at. lists.no_repetition net starts w v list at
