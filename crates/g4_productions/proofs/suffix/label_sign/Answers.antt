use Rattle.std.proofs.Common.{refl, sym, ◌∙◌}
use Rattle.g4_cursor.proofs.Moving.{so, first, second}
use Rattle.g4_productions.proofs.suffix.label_sign.Goals as goal

pub returns-then-is_at : goal.returns-then-is_at
returns-then-is_at c = first (sym c.is_at.ensures ∙ c.if-is_at.true) (so c.take.ensures (λ tree p. refl))

pub returns : goal.returns
returns c = second (sym c.is_at.ensures ∙ c.if-is_at.false) (so c.take-2.ensures (λ tree p. refl))
