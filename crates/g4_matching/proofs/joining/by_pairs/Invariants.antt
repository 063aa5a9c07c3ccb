use Rattle.std.proofs.Common.{◌+◌, ◌-◌, length}
use Rattle.g4_matching.specs.Pairs.{IsNumbering}
use Rattle.g4_matching.specs.Partitions.{classing}
use Rattle.g4_matching.proofs.Joined.{Going}
use Rattle.g4_matching.proofs.joining.by_pairs.Given as goal

abbrev pub invariant-loop-bound : goal.invariant-loop-bound
invariant-loop-bound l = record {
  going : Going (classing l.left) (classing l.right) l.at_left l.at_right l.bounds.items l.classes.items l.pairs.pairs.items;
  numbering : IsNumbering l.pairs;
}

abbrev pub decreases-loop-bound : goal.decreases-loop-bound
decreases-loop-bound l = length l.left.bounds.items + length l.right.bounds.items - (l.at_left + l.at_right)
