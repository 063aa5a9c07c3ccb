use Rattle.g4_layout.proofs.Runnable.{runnable}
use Rattle.g4_layout.proofs.law.every_network_is_runnable.Goals as goal

pub returns : goal.returns
returns c = runnable
