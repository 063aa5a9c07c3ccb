use Rattle.g4_core.proofs.Walking.{first_missing}
use Rattle.g4_core.proofs.machine.Core.next_missing.Goals as goal

pub returns-in-None : goal.returns-in-None
returns-in-None g c = first_missing c.args.self.now.rows c.args.path.now c.in-None.ensures
