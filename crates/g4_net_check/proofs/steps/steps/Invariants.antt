use Rattle.std.proofs.Common.{◌≡◌, length}
use Rattle.g4_net_check.proofs.Nexts.{AreSteps}
use Rattle.g4_net_check.proofs.steps.steps.Given as goal

abbrev pub invariant-loop-state : goal.invariant-loop-state
invariant-loop-state g l = (length l.graph.items ≡ l.state-index) × AreSteps l.net l.graph.items
