use Rattle.std.proofs.Common.{◌≡◌, length}
use Rattle.g4_classes.specs.Blocks.{AreLeastFrom}
use Rattle.g4_classes.proofs.least.least_of_blocks.Given as goal

abbrev pub invariant-loop-index : goal.invariant-loop-index
invariant-loop-index l = record { count : length l.least.items ≡ l.count; later : AreLeastFrom l.index l.blocks l.least.items }
