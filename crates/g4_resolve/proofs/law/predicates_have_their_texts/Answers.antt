use Rattle.g4_resolve.proofs.Numbers.{own_text}
use Rattle.g4_resolve.proofs.law.predicates_have_their_texts.Goals as goal

pub returns : goal.returns
returns c = own_text
