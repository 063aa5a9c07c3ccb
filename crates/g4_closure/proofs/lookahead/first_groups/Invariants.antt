use Rattle.g4_net.specs.Allowed.{Allows}
use Rattle.g4_closure.specs.Steps.{AreExactly, FirstsBelow}
use Rattle.g4_closure.proofs.lookahead.first_groups.Given as goal

abbrev pub invariant-loop-before : goal.invariant-loop-before
invariant-loop-before l = AreExactly l.found.items (FirstsBelow (Allows l.allowed) l.stacks l.targets l.before)
