use Rattle.g4_net.specs.Allowed.{Allows}
use Rattle.g4_fits.proofs.Arriving.{last_is_own}
use Rattle.g4_fits.proofs.Choosing.{full_chooses}
use Rattle.g4_fits.proofs.law.fitting_by_full_stacks.Goals as goal

pub returns : goal.returns
returns c = λ net d allowed returns w choice ready proper some full. full_chooses net (last_is_own net ready) d
    (Allows allowed) returns w proper choice some full
