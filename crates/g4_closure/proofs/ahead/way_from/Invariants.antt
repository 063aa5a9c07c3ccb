use Rattle.g4_closure.proofs.Ways.{IsOnWay}
use Rattle.g4_closure.proofs.ahead.way_from.Given as goal

abbrev pub invariant-loop : goal.invariant-loop
invariant-loop l = IsOnWay l.net l.state l.at l.inside
