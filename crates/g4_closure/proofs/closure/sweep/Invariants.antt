use Rattle.std.proofs.Common.{length}
use Rattle.g4_closure.specs.Waiting.{IsSpent}
use Rattle.g4_closure.proofs.Closing.{AreWaiting}
use Rattle.g4_closure.proofs.closure.sweep.Given as goal

abbrev pub invariant-loop-next : goal.invariant-loop-next
invariant-loop-next l = record {
  waiting : AreWaiting l.net l.fn.set l.set l.round.items l.work.items;
  spent : IsSpent l.fn.set l.set l.work.items;
}

abbrev pub decreases-loop-next : goal.decreases-loop-next
decreases-loop-next l = length l.round.items
