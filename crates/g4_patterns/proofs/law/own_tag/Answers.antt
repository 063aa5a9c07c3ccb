use Rattle.g4_patterns.proofs.Laws.{own_rule}
use Rattle.g4_patterns.proofs.law.own_tag.Goals as goal

pub returns : goal.returns
returns c = λ pattern tokens rule alt at place name k t bs is. own_rule pattern tokens rule alt at place name k t bs is
