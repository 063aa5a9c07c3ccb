use Rattle.std.proofs.Common.{◌≡◌, ◌+◌, drop, sum_by}
use Rattle.g4_layout.specs.Size.{states_of_rule_by}
use Rattle.g4_states.specs.Trees.{tree_of_rule}
use Rattle.g4_states.proofs.count.past_rules.Given as goal

abbrev pub invariant-loop-rule : goal.invariant-loop-rule
invariant-loop-rule g l =
    l.left + sum_by (λ rule. states_of_rule_by g.A.Atomic.states (tree_of_rule g.B.Body.tree g.R.LaidRule.bodies rule)) l.rules ≡
    l.spare + sum_by (λ rule. states_of_rule_by g.A.Atomic.states (tree_of_rule g.B.Body.tree g.R.LaidRule.bodies rule))
    (drop l.rule-index l.rules)
