use Rattle.g4_closure.specs.Ends.{AreEnds}
use Rattle.g4_closure.proofs.exploring.Explored.explore.Given as goal

abbrev pub invariant-loop : goal.invariant-loop
invariant-loop l = AreEnds l.net l.self.marks.items
