use Rattle.std.proofs.Common.{arith, sym}
use Rattle.g4_states.proofs.Counts.{count_lone_rule, count_other_rule, left_of}
use Rattle.g4_states.proofs.count.past_rule.Goals as goal

pub returns-in-len1 : goal.returns-in-len1
returns-in-len1 g c =
    let e = count_lone_rule g.A.Atomic.states g.B.Body.tree c.args.alternatives.now c.one-item.result _ c.in-len1.len_at_least
    c.in-len1.len_below c.one-item.is c.elements.ensures in
    left_of _ _ _ _ (sym e) c.past_run.ensures

pub returns-in_default : goal.returns-in_default
returns-in_default g c = left_of _ _ _ _ (sym
    (count_other_rule g.A.Atomic.states g.B.Body.tree c.args.alternatives.now (grind arith))) c.past_bodies.ensures
