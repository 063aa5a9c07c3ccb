use Rattle.g4_merge.proofs.Firsts.{twice_once}
use Rattle.g4_merge.proofs.law.twice_is_once.Goals as goal

pub returns : goal.returns
returns c = twice_once
