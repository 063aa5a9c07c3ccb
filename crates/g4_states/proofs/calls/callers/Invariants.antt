use Rattle.std.proofs.Common.{◌≡◌, take}
use Rattle.g4_layout.specs.Callers.{callers_of}
use Rattle.g4_states.proofs.calls.callers.Given as goal

abbrev pub invariant-loop-state : goal.invariant-loop-state
invariant-loop-state g l = l.lists.items ≡ callers_of (take l.state-index l.states) l.count
