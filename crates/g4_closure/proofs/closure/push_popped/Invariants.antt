use Rattle.std.proofs.Common.{◌≡◌, ◌++◌, map, take}
use Rattle.g4_closure.specs.Steps.{popped_to}
use Rattle.g4_closure.proofs.closure.push_popped.Given as goal

abbrev pub invariant-loop-top : goal.invariant-loop-top
invariant-loop-top l = l.found.items ≡ l.initial.found.items ++ map (popped_to l.alternative) (take l.top-index l.tops)
