use Rattle.g4_leftrec.proofs.Unpredicated.{network_unpredicated}
use Rattle.g4_leftrec.proofs.law.network_without_predicates.Goals as goal

pub returns : goal.returns
returns c = network_unpredicated
