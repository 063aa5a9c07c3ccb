use Rattle.std.proofs.Common.{◌≤◌}
use Rattle.g4_classes.specs.Columns.{AreRanks}
use Rattle.g4_classes.proofs.columns.ranks_of.Given as goal

abbrev pub invariant-loop-index : goal.invariant-loop-index
invariant-loop-index l = AreRanks l.index l.least l.columns.items l.count × (l.count ≤ l.index)
