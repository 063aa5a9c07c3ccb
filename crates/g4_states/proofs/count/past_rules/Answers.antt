use Rattle.std.proofs.Common.{arith, ap, sym}
use Rattle.g4_source.specs.Elements.{either}
use Rattle.std.proofs.Common.{map}
use Rattle.g4_layout.specs.Size.{states_of_rule_by}
use Rattle.g4_states.specs.Trees.{tree_of_rule}
use Rattle.g4_states.proofs.Counts.{count_next_rule}
use Rattle.g4_states.proofs.count.past_rules.Goals as goal

pub loop-rule-preserved : goal.loop-rule-preserved
loop-rule-preserved g c =
    let n = ap (λ xs. states_of_rule_by g.A.Atomic.states (either (map g.B.Body.tree xs))) (sym c.bodies.ensures) in
    let e = count_next_rule (λ rule. states_of_rule_by g.A.Atomic.states (tree_of_rule g.B.Body.tree g.R.LaidRule.bodies rule))
    c.args.rules.now c.loop-rule.rule-index c.rule-item.result _ c.loop-rule-test.true c.rule-item.is n in
    omega (arith, e, c.in_ok-left.ensures)

pub returns-in_err-left : goal.returns-in_err-left
returns-in_err-left g c =
    let n = ap (λ xs. states_of_rule_by g.A.Atomic.states (either (map g.B.Body.tree xs))) (sym c.bodies.ensures) in
    let e = count_next_rule (λ rule. states_of_rule_by g.A.Atomic.states (tree_of_rule g.B.Body.tree g.R.LaidRule.bodies rule))
    c.args.rules.now c.loop-rule.rule-index c.rule-item.result _ c.loop-rule-test.true c.rule-item.is n in
    rw c.from_residual.ensures (omega (arith, e, c.in_err-left.ensures))
