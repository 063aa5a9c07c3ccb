use Rattle.g4_net.specs.Allowed.{Allows}
use Rattle.g4_frames.proofs.Meaning as meaning
use Rattle.g4_frames.proofs.law.start_means.Goals as goal

pub returns : goal.returns
returns c = λ net d allowed returns. meaning.start_means net d (Allows allowed) returns
