use Rattle.g4_patterns.proofs.Laws.{one_list}
use Rattle.g4_patterns.proofs.law.one_list_of_bindings.Goals as goal

pub returns : goal.returns
returns c = λ ps pattern xs tokens k bs cs m n. one_list ps pattern xs tokens k bs cs m n
