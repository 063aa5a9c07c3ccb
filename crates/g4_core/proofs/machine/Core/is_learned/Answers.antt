use Rattle.g4_core.proofs.Filling.{slot_left}
use Rattle.g4_core.proofs.machine.Core.is_learned.Goals as goal

pub returns-in-Some : goal.returns-in-Some
returns-in-Some g c = (
  λ h. absurd cc,
  λ left. absurd (slot_left c.args.self.now c.args.path.now c.in-Some.ensures.0 c.in-Some.ensures.1 left),
)

pub returns-in-None : goal.returns-in-None
returns-in-None g c = (
  λ h. record { rows = c.rows_done.ensures.0 h; cells = c.in-None.ensures },
  λ left. c.rows_done.ensures.1 left.rows,
)
