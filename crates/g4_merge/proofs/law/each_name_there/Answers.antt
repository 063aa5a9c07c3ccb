use Rattle.g4_merge.proofs.Firsts.{each_there}
use Rattle.g4_merge.proofs.law.each_name_there.Goals as goal

pub returns : goal.returns
returns c = each_there
