use Rattle.std.proofs.Common.{◌≡◌, ◌++◌, map, drop}
use Rattle.std.specs.List.{flat_map}
use Rattle.g4_vocab.specs.Tables.{reference_of}
use Rattle.g4_vocab.proofs.Nodes.{alternative_tokens, rule_tokens}
use Rattle.g4_vocab.proofs.references.push_rule.Given as goal

abbrev pub invariant-loop-alternative : goal.invariant-loop-alternative
invariant-loop-alternative l = map reference_of l.found.items
    ++ flat_map alternative_tokens (drop l.alternative-index l.alternative-items)
    ≡ map reference_of l.initial.found.items ++ rule_tokens l.rule
