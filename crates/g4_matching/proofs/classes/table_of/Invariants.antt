use Rattle.std.proofs.Common.{◌≡◌, length}
use Rattle.g4_matching.specs.Classes.{IsTable}
use Rattle.g4_matching.specs.Partitions.{classing}
use Rattle.g4_matching.proofs.classes.table_of.Given as goal

abbrev pub invariant-loop-character : goal.invariant-loop-character
invariant-loop-character l = (length l.table.items ≡ l.character) × IsTable (classing l.partition) l.table.items
