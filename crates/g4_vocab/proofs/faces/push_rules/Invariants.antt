use Rattle.std.proofs.Common.{◌≡◌, ◌++◌, map, take}
use Rattle.std.specs.List.{filter_map}
use Rattle.g4_vocab.specs.Shown.{rule_face}
use Rattle.g4_vocab.specs.Tables.{face_of}
use Rattle.g4_vocab.proofs.faces.push_rules.Given as goal

abbrev pub invariant-loop-rule : goal.invariant-loop-rule
invariant-loop-rule l = map face_of l.found.items ≡ map face_of l.initial.found.items
    ++ filter_map (rule_face (map (λ r. r.now) l.wholes.rules.items) l.types) (map (λ r. r.now) (take l.rule-index l.rules))
