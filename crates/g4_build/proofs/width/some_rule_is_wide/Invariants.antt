use Rattle.std.proofs.Common.{map, drop}
use Rattle.g4_layout.specs.Decisions.{RulesHaveDecision}
use Rattle.g4_source.specs.Rules.{alternatives_of}
use Rattle.g4_build.proofs.Widths.{NotYet}
use Rattle.g4_build.proofs.width.some_rule_is_wide.Given as goal

abbrev pub invariant-loop-rule : goal.invariant-loop-rule
invariant-loop-rule g l = NotYet (RulesHaveDecision (map alternatives_of l.rules))
    (RulesHaveDecision (map alternatives_of (drop l.rule-index l.rules)))
