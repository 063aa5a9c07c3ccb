use Rattle.g4_layout.proofs.Unpredicated.{unpredicated}
use Rattle.g4_layout.proofs.law.laid_without_predicates.Goals as goal

pub returns : goal.returns
returns c = λ set rules numberings start net can none built. unpredicated set rules numberings start net can.full none built
