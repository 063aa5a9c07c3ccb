use Rattle.std.proofs.Common.{take}
use Rattle.g4_classes.specs.Partitions.{IsDividing}
use Rattle.g4_classes.proofs.partition.Partition.divide.Given as goal

abbrev pub invariant-loop-symbol : goal.invariant-loop-symbol
invariant-loop-symbol l = IsDividing (take l.symbol-index l.set) l.initial.self.blocks.items l.first_new l.self.blocks.items
    l.self.moved.items
