use Rattle.std.proofs.Common.{◌<◌}
use Rattle.g4_matching.specs.Partitions.{AreAlternate}
use Rattle.g4_matching.proofs.Alternate.{IsNextClass}
use Rattle.g4_matching.proofs.partition.alternate.Given as goal

abbrev pub invariant-loop : goal.invariant-loop
invariant-loop l = record {
  alternate : AreAlternate l.counter l.classes.items;
  small : l.class < 2;
  next : IsNextClass l.counter l.classes.items l.class;
}
