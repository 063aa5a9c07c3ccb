use Rattle.std.proofs.Common.{map, take}
use Rattle.g4_vocab.specs.Tables.{AreWholes}
use Rattle.g4_vocab.proofs.wholes.names_of.Given as goal

abbrev pub invariant-loop-rule : goal.invariant-loop-rule
invariant-loop-rule l = AreWholes (map (λ r. r.now) (take l.rule-index l.rules)) l.names
