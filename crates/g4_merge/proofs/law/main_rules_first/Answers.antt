use Rattle.g4_merge.proofs.Firsts.{main_first}
use Rattle.g4_merge.proofs.law.main_rules_first.Goals as goal

pub returns : goal.returns
returns c = main_first
