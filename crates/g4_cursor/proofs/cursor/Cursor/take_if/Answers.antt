use Rattle.std.proofs.Common.{refl, sym, ◌∙◌}
use Rattle.g4_cursor.proofs.Moving.{so, left_out, there}
use Rattle.g4_cursor.proofs.cursor.Cursor.take_if.Goals as goal

pub returns-then-not-is_at : goal.returns-then-not-is_at
returns-then-not-is_at c = left_out _ (sym c.is_at.ensures ∙ c.if-not-is_at.true) refl

pub returns : goal.returns
returns c = there (sym c.is_at.ensures ∙ c.if-not-is_at.false) (so c.take.ensures (λ tree taken. refl))
