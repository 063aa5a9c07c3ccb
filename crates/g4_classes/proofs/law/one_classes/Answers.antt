use Rattle.g4_classes.proofs.Naming.{one_given}
use Rattle.g4_classes.proofs.law.one_classes.Goals as goal

pub returns : goal.returns
returns c = one_given
