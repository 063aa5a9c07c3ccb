use Rattle.std.proofs.Common.{Contains}
use Rattle.g4_frames.proofs.Meaning as meaning
use Rattle.g4_frames.proofs.law.next_means.Goals as goal

pub returns : goal.returns
returns c = λ net row below a framed down. meaning.next_meant net (Contains row) below a framed down
