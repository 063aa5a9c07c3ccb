use Rattle.std.proofs.Common.{◌+◌, length}
use Rattle.g4_stacks.proofs.Walking.{IsWalking}
use Rattle.g4_stacks.proofs.Sizes.{left_at, left_in}
use Rattle.g4_stacks.proofs.copying.Copying.take.Given as goal

abbrev pub invariant-walk : goal.invariant-walk
invariant-walk l = IsWalking l.source l.root l.initial.self.graph l.waiting.items l.node l.tops.items l.self.graph l.self.known

abbrev pub decreases-walk : goal.decreases-walk
decreases-walk l = left_in l.source l.waiting.items + left_at l.source l.node (length l.tops.items)
