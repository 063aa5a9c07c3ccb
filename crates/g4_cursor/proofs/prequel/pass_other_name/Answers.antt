use Rattle.std.proofs.Common.{refl, sym, ◌∙◌}
use Rattle.g4_cursor.proofs.Moving.{passed, after, left_out, there, led}
use Rattle.g4_cursor.proofs.prequel.pass_other_name.Goals as goal

pub returns-then-is_at : goal.returns-then-is_at
returns-then-is_at c = there (led _ _ _ refl ∙ sym c.is_at.ensures ∙ c.if-is_at.true) (after c.take.ensures (passed c.take_name.ensures))

pub returns-else-is_at : goal.returns-else-is_at
returns-else-is_at c = left_out _ (led _ _ _ refl ∙ sym c.is_at.ensures ∙ c.if-is_at.false) tt
