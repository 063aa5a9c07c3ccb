use Rattle.std.proofs.Common.{take}
use Rattle.g4_configs.proofs.OneStack.{IsOneStack}
use Rattle.g4_configs.proofs.bottom.bottom.Given as goal

abbrev pub invariant-loop-state : goal.invariant-loop-state
invariant-loop-state l = IsOneStack l.initial.graph l.graph l.node (take l.state-index l.returns) l.wild
