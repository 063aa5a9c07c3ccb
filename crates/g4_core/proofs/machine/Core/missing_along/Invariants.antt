use Rattle.std.proofs.Common.{drop}
use Rattle.g4_core.proofs.Walking.{Listed}
use Rattle.g4_core.proofs.machine.Core.missing_along.Given as goal

abbrev pub invariant-loop-at : goal.invariant-loop-at
invariant-loop-at g l = Listed l.self.rows l.path (drop l.at l.path.looked.items)
