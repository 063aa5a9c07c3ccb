use Rattle.std.proofs.Common.{◌≡◌, map, take}
use Rattle.g4_source.specs.Rules.{parser_rules}
use Rattle.g4_source.specs.Views.{rule_view}
use Rattle.g4_source.proofs.rules.parser_rules.Given as goal

abbrev pub invariant-loop-rule : goal.invariant-loop-rule
invariant-loop-rule l = map (λ r. r.now) l.found.items ≡ parser_rules (map rule_view (take l.rule-index l.rules))
