use Rattle.g4_run.proofs.OneEnding.{one_end}
use Rattle.g4_run.specs.Running.{beginning}
use Rattle.g4_run.proofs.law.one_ending.Goals as goal

pub returns : goal.returns
returns c = λ net values word a b. one_end net values word beginning a b
