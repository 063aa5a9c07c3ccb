use Rattle.g4_build.proofs.Widths.{one_found, one_passed, next_rules}
use Rattle.g4_build.proofs.width.some_rule_is_wide.Goals as goal

pub returns-then-rule_is_wide : goal.returns-then-rule_is_wide
returns-then-rule_is_wide g c =
    one_found _ _ _ _ c.rule_is_wide.ensures c.if-rule_is_wide.true
    (next_rules _ c.args.rules.now c.loop-rule.rule-index c.rule-item.result c.loop-rule-test.true c.rule-item.is c.loop-rule.invariant)

pub loop-rule-preserved : goal.loop-rule-preserved
loop-rule-preserved g c =
    one_passed _ _ _ _ c.rule_is_wide.ensures c.if-rule_is_wide.false
    (next_rules _ c.args.rules.now c.loop-rule.rule-index c.rule-item.result c.loop-rule-test.true c.rule-item.is c.loop-rule.invariant)
