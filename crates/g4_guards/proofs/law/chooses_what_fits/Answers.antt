use Rattle.g4_fits.proofs.Arriving.{called_are_own, last_is_own}
use Rattle.g4_guards.proofs.Choosing.{chooses_least}
use Rattle.g4_guards.proofs.law.chooses_what_fits.Goals as goal

pub returns : goal.returns
returns g c = λ net d returns w choice ready proper some chooses.
    chooses_least net (last_is_own net ready) (called_are_own net ready) d g.A.Alternatives.include returns w proper choice some chooses
