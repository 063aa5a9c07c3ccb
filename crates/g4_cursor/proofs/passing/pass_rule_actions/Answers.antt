use Rattle.std.proofs.Common.{refl, sym, ◌∙◌}
use Rattle.g4_cursor.proofs.Moving.{led}
use Rattle.g4_cursor.proofs.Turning.{fewer, pass_start, pass_turn, pass_end}
use Rattle.g4_cursor.proofs.passing.pass_rule_actions.Goals as goal

pub loop-cursor-init : goal.loop-cursor-init
loop-cursor-init c = pass_start

pub loop-cursor-preserved : goal.loop-cursor-preserved
loop-cursor-preserved c = pass_turn c.loop-cursor.invariant (led _ _ _ refl ∙ sym c.is_at.ensures ∙ c.loop-cursor-test.true)
    c.pass_rule_action.ensures

pub loop-cursor-smaller : goal.loop-cursor-smaller
loop-cursor-smaller c = fewer (led _ _ _ refl ∙ sym c.is_at.ensures ∙ c.loop-cursor-test.true) c.pass_rule_action.ensures

pub returns : goal.returns
returns c = pass_end c.loop-cursor.invariant (led _ _ _ refl ∙ sym c.is_at.ensures ∙ c.loop-cursor-test.false)
