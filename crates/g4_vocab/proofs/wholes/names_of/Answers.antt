use Rattle.g4_vocab.proofs.Kept.{wholes_step}
use Rattle.g4_vocab.proofs.wholes.names_of.Goals as goal

pub loop-rule-preserved : goal.loop-rule-preserved
loop-rule-preserved c = wholes_step c.args.rules.now c.loop-rule.rule-index c.rule-item.result c.loop-rule.names c.add_rule.new.names
    c.loop-rule-test.true c.rule-item.is c.in_ok-add_rule.ensures c.loop-rule.invariant
