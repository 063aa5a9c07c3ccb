use Rattle.std.proofs.Common.{Contains}
use Rattle.g4_frames.proofs.Meaning as meaning
use Rattle.g4_frames.proofs.law.lowering_means.Goals as goal

pub returns : goal.returns
returns c = λ net row above below framed. meaning.lowered_means net (Contains row) above below framed.bottomed
