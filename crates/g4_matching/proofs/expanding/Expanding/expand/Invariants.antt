use Rattle.g4_matching.specs.Expanding.{waiting_of}
use Rattle.g4_matching.specs.Returns.{Grows}
use Rattle.g4_matching.proofs.Taking.{Going, left}
use Rattle.g4_matching.proofs.expanding.Expanding.expand.Given as goal

abbrev pub invariant-loop-entry : goal.invariant-loop-entry
invariant-loop-entry l = Going l.net l.last l.in_step (waiting_of l.fn.self.waiting) l.self
    × Grows l.fn.self.waiting.returns l.self.waiting.returns

abbrev pub decreases-loop-entry : goal.decreases-loop-entry
decreases-loop-entry l = left l.net l.last (waiting_of l.fn.self.waiting) l.self
