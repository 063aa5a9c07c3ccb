use Rattle.g4_core.specs.declared.event.Phase.TheVariants.{Free}
use Rattle.g4_core.proofs.machine.Core.claim.Goals as goal

pub returns-in_default : goal.returns-in_default
returns-in_default g c = λ d h. c.in_default.ensures Free h.0
