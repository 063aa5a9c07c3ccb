use Rattle.std.proofs.Common.{◌≡◌, false, take}
use Rattle.g4_leftrec.specs.OwnCalls.{is_left_recursive}
use Rattle.g4_leftrec.specs.OwnSteps.{calls}
use Rattle.g4_leftrec.proofs.kinds.is_left_recursive.Given as goal

abbrev pub invariant-loop-alternative : goal.invariant-loop-alternative
invariant-loop-alternative l = is_left_recursive (calls l.rule) (take l.alternative-index l.alternatives) ≡ false
