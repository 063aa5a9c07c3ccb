use Rattle.std.proofs.Common.{◌++◌, ap, ◌∙◌, sym}
use Rattle.g4_preds.specs.Postfix.{rule_in}
use Rattle.g4_preds.proofs.NamedRules.{rules_more, rules_whole}
use Rattle.g4_preds.proofs.predicate.Predicate.rules_named.Goals as goal

pub loop-node-preserved : goal.loop-node-preserved
loop-node-preserved c =
    c.in_ok-push_rule.ensures ∙ ap (λ rs. rs ++ rule_in c.node-item.result) c.loop-node.invariant
    ∙ sym (rules_more c.nodes-node-items.result.now c.loop-node.node-index c.node-item.result c.loop-node-test.true c.node-item.is)

pub returns : goal.returns
returns c = c.new.ensures ∙ c.loop-node.invariant
    ∙ rules_whole c.nodes-node-items.result.now c.loop-node.node-index c.args.self.now c.loop-node-test.false c.nodes-node-items.ensures
