use Rattle.g4_net.specs.Allowed.{Allows}
use Rattle.g4_fits.proofs.Arriving.{called_are_own, last_is_own}
use Rattle.g4_fits.proofs.Choosing.{sll_answers, sll_no_error}
use Rattle.g4_fits.proofs.law.fitting_by_sll.Goals as goal

pub returns-clause-answers : goal.returns-clause-answers
returns-clause-answers c = λ net d allowed returns w i path ready proper some sll.
    sll_answers net (last_is_own net ready) d (Allows allowed) returns w proper (called_are_own net ready) i path some sll

pub returns-clause-no_error : goal.returns-clause-no_error
returns-clause-no_error c = λ net d allowed returns w k path ready proper some sll.
    sll_no_error net (last_is_own net ready) d (Allows allowed) returns w proper (called_are_own net ready) k path some sll
