use Rattle.g4_load.proofs.OneBuilt as one
use Rattle.g4_load.proofs.law.one_listed.Goals as goal

pub returns : goal.returns
returns c = λ files library name rule f g a b h k. one.one_listed files library name rule f g a b h k
