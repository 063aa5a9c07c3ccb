use Rattle.g4_fits.proofs.Leaving as leaving
use Rattle.g4_fits.proofs.law.leave_fits.Goals as goal

pub returns : goal.returns
returns c = λ net k u exit back i returns w loop silently fits. leaving.leave_fits net k u exit loop back i returns w silently fits
