use Rattle.std.proofs.Common.{◌≡◌, ◌++◌, map, drop}
use Rattle.std.specs.List.{flat_map}
use Rattle.g4_grammar.specs.Written.{rule_predicates}
use Rattle.g4_resolve.proofs.predicates.texts_of.Given as goal

abbrev pub invariant-loop-rule : goal.invariant-loop-rule
invariant-loop-rule l = l.found.items ++ flat_map rule_predicates (map (λ r. r.now) (drop l.rule-index l.rules))
    ≡ flat_map rule_predicates (map (λ r. r.now) l.rules)
