use Rattle.std.proofs.Common.{Contains}
use Rattle.g4_frames.specs.Framed.{Over}
use Rattle.g4_frames.proofs.Verdicts.{agree_back, agree_over}
use Rattle.g4_frames.proofs.law.verdicts_stay.Goals as goal

pub returns : goal.returns
returns c = λ row below. agree_back (Contains row) (Over below (Contains row)) (agree_over below (Contains row))
