use Rattle.std.proofs.Common.{◌≡◌, ◌++◌, map, drop}
use Rattle.std.specs.List.{flat_map}
use Rattle.g4_vocab.specs.Tables.{reference_of}
use Rattle.g4_vocab.proofs.Nodes.{rule_tokens}
use Rattle.g4_vocab.proofs.references.references_of.Given as goal

abbrev pub invariant-loop-rule : goal.invariant-loop-rule
invariant-loop-rule l = map reference_of l.found.items ++ flat_map rule_tokens (map (λ r. r.now) (drop l.rule-index l.rules))
    ≡ flat_map rule_tokens (map (λ r. r.now) l.rules)
