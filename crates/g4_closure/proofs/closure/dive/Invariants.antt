use Rattle.std.proofs.Common.{[]}
use Rattle.g4_closure.proofs.Closing.{AreWaiting}
use Rattle.g4_closure.proofs.closure.dive.Given as goal

abbrev pub invariant-loop-steps : goal.invariant-loop-steps
invariant-loop-steps l = AreWaiting l.net l.fn.set l.set [] l.work.items
