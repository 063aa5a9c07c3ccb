use Rattle.std.proofs.Common.{◌≡◌, map, take}
use Rattle.g4_vocab.specs.Numbering.{all_declared}
use Rattle.g4_vocab.specs.Tables.{reference_of}
use Rattle.g4_vocab.proofs.declared.declared_of.Given as goal

abbrev pub invariant-loop-prequel : goal.invariant-loop-prequel
invariant-loop-prequel l = map reference_of l.found.items ≡ all_declared (take l.prequel-index l.prequels)
