use Rattle.g4_closure.specs.Ends.{AreEnds}
use Rattle.g4_closure.specs.Returns.{AreReached}
use Rattle.g4_closure.proofs.returns.with_returns.Given as goal

abbrev pub invariant-loop-next : goal.invariant-loop-next
invariant-loop-next l = AreEnds l.net l.explored.marks.items × AreReached l.net l.set.graph l.starts l.found.items
