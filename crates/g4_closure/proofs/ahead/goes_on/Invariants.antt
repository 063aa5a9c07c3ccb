use Rattle.g4_closure.proofs.Following.{IsFollowed}
use Rattle.g4_closure.proofs.ahead.goes_on.Given as goal

abbrev pub invariant-loop : goal.invariant-loop
invariant-loop l = IsFollowed l.net l.set l.fn.from l.at
