use Rattle.std.proofs.Common.{◌≡◌, map, take}
use Rattle.g4_source.specs.Views.{rule_view}
use Rattle.g4_source.proofs.rules.views_of.Given as goal

abbrev pub invariant-loop-rule : goal.invariant-loop-rule
invariant-loop-rule l = map rule_view l.found.items ≡ take l.rule-index l.rules
