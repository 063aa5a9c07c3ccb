use Rattle.g4_ordered.proofs.Exists.{a_list}
use Rattle.g4_ordered.proofs.law.there_is_a_list.Goals as goal

pub returns : goal.returns
returns c = λ net starts w u v well is. a_list net starts w u v well is
