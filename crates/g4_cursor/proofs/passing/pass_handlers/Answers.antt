use Rattle.std.proofs.Common.{refl, sym, ◌∙◌}
use Rattle.g4_cursor.proofs.Moving.{passed, after, led}
use Rattle.g4_cursor.proofs.Turning.{fewer_then, pass_start, pass_turn, pass_end}
use Rattle.g4_cursor.proofs.passing.pass_handlers.Goals as goal

pub loop-cursor-init : goal.loop-cursor-init
loop-cursor-init c = pass_start

pub loop-cursor-preserved : goal.loop-cursor-preserved
loop-cursor-preserved c = pass_turn c.loop-cursor.invariant (led _ _ _ refl ∙ sym c.is_at_word.ensures ∙ c.loop-cursor-test.true)
    (after c.take_word.ensures (after c.take.ensures (passed c.take-in-loop-cursor.ensures)))

pub loop-cursor-smaller : goal.loop-cursor-smaller
loop-cursor-smaller c = fewer_then (sym c.is_at_word.ensures ∙ c.loop-cursor-test.true) c.take_word.ensures
    (after c.take.ensures (passed c.take-in-loop-cursor.ensures))

pub returns : goal.returns
returns c = after (pass_end c.loop-cursor.invariant (led _ _ _ refl ∙ sym c.is_at_word.ensures ∙ c.loop-cursor-test.false))
    c.pass_clause.ensures
