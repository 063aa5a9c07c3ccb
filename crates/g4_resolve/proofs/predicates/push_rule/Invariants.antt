use Rattle.std.proofs.Common.{◌≡◌, ◌++◌, drop}
use Rattle.std.specs.List.{flat_map}
use Rattle.g4_grammar.specs.Written.{rule_predicates}
use Rattle.g4_resolve.proofs.Gathering.{alternative_texts}
use Rattle.g4_resolve.proofs.predicates.push_rule.Given as goal

abbrev pub invariant-loop-alternative : goal.invariant-loop-alternative
invariant-loop-alternative l = l.found.items ++ flat_map alternative_texts (drop l.alternative-index l.alternative-items)
    ≡ l.initial.found.items ++ rule_predicates l.rule
