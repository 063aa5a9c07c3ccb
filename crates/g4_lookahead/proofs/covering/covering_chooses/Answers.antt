use Rattle.g4_net.specs.Allowed.{Allows}
use Rattle.g4_net.specs.Configurations.{above_bottom}
use Rattle.g4_net.specs.Lookahead.{Start}
use Rattle.g4_lookahead.proofs.Covered.{covering_chooses, start_above_bottom}
use Rattle.g4_lookahead.proofs.covering.covering_chooses.Goals as goal

pub returns : goal.returns
returns c = λ net d allowed returns a i w k covers least full.
    covering_chooses net (Start net d (Allows allowed) (above_bottom returns)) a i w 0 k
    (start_above_bottom net d (Allows allowed) returns) covers least full
