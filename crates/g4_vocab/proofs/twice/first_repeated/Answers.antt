use Rattle.std.proofs.Common.{rules}
use Rattle.g4_vocab.proofs.Repeats.{passed, repeated}
use Rattle.g4_vocab.proofs.twice.first_repeated.Goals as goal

pub loop-rule-preserved : goal.loop-rule-preserved
loop-rule-preserved c =
    passed c.args.rules.now c.loop-rule.seen c.insert.new.self c.loop-rule.rule-index c.rule-item.result c.name-name.result
    c.loop-rule.invariant c.loop-rule-test.true c.rule-item.is c.name-name.ensures (search rules) c.in_ok-insert.ensures.updates

pub returns-then-not-branch : goal.returns-then-not-branch
returns-then-not-branch c =
    repeated c.args.rules.now c.loop-rule.seen c.insert.new.self c.loop-rule.rule-index c.rule-item.result c.name-name.result
    c.loop-rule.invariant c.loop-rule-test.true c.rule-item.is c.name-name.ensures (search rules)
