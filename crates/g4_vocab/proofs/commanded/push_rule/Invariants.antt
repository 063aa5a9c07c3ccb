use Rattle.std.proofs.Common.{◌≡◌, ◌++◌, map, drop}
use Rattle.std.specs.List.{flat_map}
use Rattle.g4_vocab.specs.Numbering.{commanded_by}
use Rattle.g4_vocab.specs.Tables.{reference_of}
use Rattle.g4_vocab.proofs.commanded.push_rule.Given as goal

abbrev pub invariant-loop-alternative : goal.invariant-loop-alternative
invariant-loop-alternative l = map reference_of l.found.items ++ flat_map commanded_by (drop l.alternative-index l.alternative-items)
    ≡ map reference_of l.initial.found.items ++ flat_map commanded_by l.rule.alternatives
