use Rattle.g4_core.specs.declared.event.Phase.TheVariants.{Ended}
use Rattle.g4_core.proofs.machine.Core.finish.Goals as goal

pub returns-in_default : goal.returns-in_default
returns-in_default g c = λ d h. c.in_default.ensures (Ended h.0) h.1
