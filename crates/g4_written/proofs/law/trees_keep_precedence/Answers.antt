use Rattle.g4_written.proofs.Precedence.{tree_keeps}
use Rattle.g4_written.proofs.law.trees_keep_precedence.Goals as goal

pub returns : goal.returns
returns c = λ set rules start net values word tree can built run. tree_keeps rules set start net can built values word tree run
