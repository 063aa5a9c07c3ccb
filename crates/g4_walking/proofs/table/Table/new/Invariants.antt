use Rattle.g4_walking.specs.Numbers.{Begins}
use Rattle.g4_walking.proofs.table.Table.new.Given as goal

abbrev pub invariant-loop-at : goal.invariant-loop-at
invariant-loop-at l = Begins l.net l.words.items l.at
