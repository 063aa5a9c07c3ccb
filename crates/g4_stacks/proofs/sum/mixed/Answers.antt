use Rattle.std.proofs.Common.{refl}
use Rattle.g4_stacks.specs.Sums.{mixed_from}
use Rattle.g4_stacks.proofs.sum.mixed.Goals as goal

pub returns-clause-is : goal.returns-clause-is
unfolding mixed_from
returns-clause-is c = refl
