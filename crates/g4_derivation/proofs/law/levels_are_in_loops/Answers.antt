use Rattle.g4_derivation.proofs.Returning.{has_loops}
use Rattle.g4_derivation.proofs.law.levels_are_in_loops.Goals as goal

pub returns : goal.returns
returns c = λ set rules start net can built. has_loops set rules start net can built
