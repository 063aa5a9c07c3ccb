use Rattle.g4_fetch.proofs.OneVocabulary.{one_all}
use Rattle.g4_fetch.proofs.law.one_fetched.Goals as goal

pub returns : goal.returns
returns c = λ files library name f g a b h k. one_all files library name f g a b h k
