use Rattle.g4_net_check.proofs.Returns.{AreReturns}
use Rattle.g4_net_check.proofs.callers.return_states.Given as goal

abbrev pub invariant-loop-state : goal.invariant-loop-state
invariant-loop-state g l = AreReturns l.states l.rules l.state-index l.lists.items
