use Rattle.std.proofs.Common.{refl, sym, ◌∙◌}
use Rattle.g4_cursor.proofs.Moving.{passed, after, left_out, there, led}
use Rattle.g4_cursor.proofs.Turning.{fewer_then, pass_start, pass_turn, pass_end}
use Rattle.g4_cursor.proofs.passing.pass_throws.Goals as goal

pub returns-then-not-is_at_word : goal.returns-then-not-is_at_word
returns-then-not-is_at_word c = left_out _ (led _ _ _ refl ∙ sym c.is_at_word.ensures ∙ c.if-not-is_at_word.true) tt

pub loop-cursor-init : goal.loop-cursor-init
loop-cursor-init c = pass_start

pub loop-cursor-preserved : goal.loop-cursor-preserved
loop-cursor-preserved c = pass_turn c.loop-cursor.invariant (led _ _ _ refl ∙ sym c.is_at.ensures ∙ c.loop-cursor-test.true)
    (after c.take.ensures (passed c.take_name-in-loop-cursor.ensures))

pub loop-cursor-smaller : goal.loop-cursor-smaller
loop-cursor-smaller c = fewer_then (sym c.is_at.ensures ∙ c.loop-cursor-test.true) c.take.ensures c.take_name-in-loop-cursor.ensures

pub returns : goal.returns
returns c = there (led _ _ _ refl ∙ sym c.is_at_word.ensures ∙ c.if-not-is_at_word.false)
    (after c.take_word.ensures (after c.take_name.ensures
    (pass_end c.loop-cursor.invariant (led _ _ _ refl ∙ sym c.is_at.ensures ∙ c.loop-cursor-test.false))))
