use Rattle.std.proofs.Common.{[]}
use Rattle.g4_syntax.proofs.Unique.{one_reading}
use Rattle.g4_syntax.proofs.law.one_tree.Goals as goal

pub returns : goal.returns
returns c = λ tokens a b first second. (one_reading a b tokens [] [] first second).0
