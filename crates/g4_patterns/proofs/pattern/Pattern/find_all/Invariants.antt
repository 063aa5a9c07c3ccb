use Rattle.g4_patterns.proofs.Found.{AreBelow}
use Rattle.g4_patterns.proofs.pattern.Pattern.find_all.Given as goal

abbrev pub invariant-loop-place : goal.invariant-loop-place
invariant-loop-place l = AreBelow l.self.0 l.self.1 l.subject.0 l.subject.1 l.place l.found.items
