use Rattle.std.proofs.Common.{map, take}
use Rattle.g4_vocab.specs.Halves.{AreHalves}
use Rattle.g4_vocab.proofs.halves.halves_of.Given as goal

abbrev pub invariant-loop-rule : goal.invariant-loop-rule
invariant-loop-rule l = AreHalves (take l.rule-index l.rules) (map (λ r. r.now) l.parsers.items) (map (λ r. r.now) l.lexers.items)
