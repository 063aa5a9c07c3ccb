use Rattle.g4_resolve.proofs.ByName.{called, numbered}
use Rattle.g4_resolve.proofs.law.rules_derive_by_name.Goals as goal

pub returns-clause-numbered : goal.returns-clause-numbered
returns-clause-numbered c = λ types source added name place word h. numbered source.rules types added name place word h

pub returns-clause-called : goal.returns-clause-called
returns-clause-called c = λ types source added name word. called source.rules types added name word
