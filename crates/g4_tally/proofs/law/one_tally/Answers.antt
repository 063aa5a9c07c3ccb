use Rattle.g4_tally.proofs.OneTally.{one_of_both}
use Rattle.g4_tally.proofs.law.one_tally.Goals as goal

pub returns : goal.returns
returns c = λ rows net words others a b same one other. one_of_both rows net words others same a b one other
