use Rattle.g4_net.specs.Allowed.{Allows}
use Rattle.g4_frames.proofs.Running as running
use Rattle.g4_frames.proofs.law.frames_choose.Goals as goal

pub returns : goal.returns
returns c = λ net d allowed returns w choice. running.frames_choose net d (Allows allowed) returns w choice
