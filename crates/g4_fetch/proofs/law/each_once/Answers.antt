use Rattle.g4_fetch.proofs.Once.{all_once}
use Rattle.g4_fetch.proofs.law.each_once.Goals as goal

pub returns : goal.returns
returns c = λ files library name fetched all h. all_once files library name fetched all h
