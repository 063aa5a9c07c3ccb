use Rattle.g4_checks.proofs.OneHolder as holding
use Rattle.g4_checks.proofs.law.one_holder.Goals as goal

pub returns : goal.returns
returns c = λ fault rules a b h k. holding.one_holder fault rules a b h k
