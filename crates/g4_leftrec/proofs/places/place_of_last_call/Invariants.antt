use Rattle.std.proofs.Common.{drop, map}
use Rattle.g4_source.specs.Trees.{element_of, in_order}
use Rattle.g4_leftrec.specs.OwnSteps.{calls, is_silent}
use Rattle.g4_leftrec.proofs.LastCalls.{IsPassed}
use Rattle.g4_leftrec.proofs.places.place_of_last_call.Given as goal

-- the elements from the place on are passed
abbrev pub invariant-loop-place : goal.invariant-loop-place
invariant-loop-place l = IsPassed (calls l.rule) is_silent (in_order (map element_of (drop l.place l.elements)))
