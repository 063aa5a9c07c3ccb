use Rattle.std.proofs.Common.{Contains}
use Rattle.g4_frames.proofs.Meaning as meaning
use Rattle.g4_frames.proofs.law.down_means.Goals as goal

pub returns : goal.returns
returns c = λ net row below framed down. meaning.down_means net (Contains row) below framed down
