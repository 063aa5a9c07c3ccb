use Rattle.std.proofs.Common.{◌≡◌, false, length}
use Rattle.g4_preds.specs.Steps.{completed}
use Rattle.g4_preds.proofs.parser.Parser.complete.Given as goal

abbrev pub invariant-loop-self : goal.invariant-loop-self
invariant-loop-self l = (completed l.self.nodes.items l.self.pending ≡ completed l.fn.self.nodes.items l.fn.self.pending)
    × (l.self.wants_operand ≡ false)

abbrev pub decreases-loop-self : goal.decreases-loop-self
decreases-loop-self l = length l.self.pending
