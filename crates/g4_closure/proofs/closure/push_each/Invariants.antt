use Rattle.std.proofs.Common.{◌≡◌, ◌++◌, map, take}
use Rattle.g4_closure.specs.Steps.{placed}
use Rattle.g4_closure.proofs.closure.push_each.Given as goal

abbrev pub invariant-loop-state : goal.invariant-loop-state
invariant-loop-state l = l.found.items ≡ l.initial.found.items ++ map (placed l.alternative l.stacks) (take l.state-index l.states)
