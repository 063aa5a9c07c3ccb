use Rattle.g4_load.proofs.OneBuilt as one
use Rattle.g4_load.proofs.law.one_built.Goals as goal

pub returns : goal.returns
returns c = λ files library name start f g a b h k. one.one_built files library name start f g a b h k
