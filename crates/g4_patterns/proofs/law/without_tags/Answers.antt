use Rattle.g4_patterns.proofs.Laws.{plain_matches}
use Rattle.g4_patterns.proofs.law.without_tags.Goals as goal

pub returns : goal.returns
returns c = λ pattern tokens p k t bs plain. plain_matches pattern tokens p k t bs plain
