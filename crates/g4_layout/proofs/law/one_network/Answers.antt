use Rattle.g4_layout.proofs.OneNetwork as one
use Rattle.g4_layout.proofs.law.one_network.Goals as goal

pub returns : goal.returns
returns c = one.one_network
