use Rattle.g4_resolve.proofs.Numbers.{one_text}
use Rattle.g4_resolve.proofs.law.predicates_of_one_number.Goals as goal

pub returns : goal.returns
returns c = one_text
