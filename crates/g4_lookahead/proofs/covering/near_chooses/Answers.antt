use Rattle.g4_net.specs.Allowed.{Allows}
use Rattle.g4_lookahead.proofs.Nearby.{near_chooses}
use Rattle.g4_lookahead.proofs.covering.near_chooses.Goals as goal

pub returns : goal.returns
returns c = λ net d allowed returns a i w k near full. near_chooses net d (Allows allowed) returns a i near w k full
