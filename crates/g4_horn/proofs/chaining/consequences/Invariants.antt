use Rattle.std.proofs.Common.{[]}
use Rattle.g4_horn.specs.Chaining.{IsUnderWay, work_left}
use Rattle.g4_horn.proofs.chaining.consequences.Given as goal

abbrev pub invariant-loop-waits : goal.invariant-loop-waits
invariant-loop-waits l = IsUnderWay l.clauses l.count [] l.chaining

abbrev pub decreases-loop-waits : goal.decreases-loop-waits
decreases-loop-waits l = work_left l.chaining
