use Rattle.std.proofs.Common.{true}
use Rattle.g4_core.specs.declared.event.Phase.TheVariants.{Learning}
use Rattle.g4_core.proofs.machine.Core.is_learning.Goals as goal

pub returns-in-None : goal.returns-in-None
returns-in-None g c = (λ h. absurd cc, λ h. absurd (c.in-None.ensures (Learning h.0 h.1 true) h.2))
