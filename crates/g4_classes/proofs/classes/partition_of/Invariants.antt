use Rattle.std.proofs.Common.{take}
use Rattle.g4_classes.specs.Partitions.{IsPartition}
use Rattle.g4_classes.proofs.classes.partition_of.Given as goal

abbrev pub invariant-loop-state : goal.invariant-loop-state
invariant-loop-state l = IsPartition (take l.state-index l.state-items) l.partition.blocks.items
