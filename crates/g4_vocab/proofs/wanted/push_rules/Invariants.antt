use Rattle.std.proofs.Common.{◌≡◌, ◌++◌, map, take}
use Rattle.g4_vocab.specs.Numbering.{rule_token}
use Rattle.g4_vocab.specs.Tables.{wanted_of}
use Rattle.g4_vocab.proofs.wanted.push_rules.Given as goal

abbrev pub invariant-loop-rule : goal.invariant-loop-rule
invariant-loop-rule l = map wanted_of l.found.items ≡ map wanted_of l.initial.found.items
    ++ map (rule_token (map (λ r. r.now) l.wholes.rules.items)) (map (λ r. r.now) (take l.rule-index l.rules))
