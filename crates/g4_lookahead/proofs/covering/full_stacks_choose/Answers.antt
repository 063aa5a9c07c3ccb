use Rattle.g4_lookahead.proofs.Choices.{full_choice}
use Rattle.g4_lookahead.proofs.covering.full_stacks_choose.Goals as goal

pub returns : goal.returns
returns c = λ net d allowed returns w ready proper ends. full_choice net d allowed returns w ready proper ends
