use Rattle.g4_fetch.proofs.Endings.{all_end}
use Rattle.g4_fetch.proofs.law.ends_at_its_stop.Goals as goal

pub returns : goal.returns
returns c = λ files library name fetched stop h. all_end files library name fetched stop h
