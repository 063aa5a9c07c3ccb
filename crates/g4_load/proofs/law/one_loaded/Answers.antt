use Rattle.g4_load.proofs.OneBuilt as one
use Rattle.g4_load.proofs.law.one_loaded.Goals as goal

pub returns : goal.returns
returns c = λ files library name f g a b h k. one.one_loaded files library name f g a b h k
