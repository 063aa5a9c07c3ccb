use Rattle.std.proofs.Common.{map}
use Rattle.g4_configs.specs.Configs.{Holds}
use Rattle.g4_predict.specs.Paths.{looked_of}
use Rattle.g4_predict.proofs.Looking.{IsSimulating}
use Rattle.g4_predict.proofs.sll.look_on.Given as goal

abbrev pub invariant-loop-index : goal.invariant-loop-index
invariant-loop-index l = IsSimulating l.net (Holds l.fn.from) l.k l.tokens l.index (Holds l.set) (map looked_of l.looked.items)
