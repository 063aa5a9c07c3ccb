use Rattle.std.proofs.Common.{refl, sym, ◌∙◌}
use Rattle.g4_cursor.proofs.Moving.{upon, so, left_out, there, led}
use Rattle.g4_cursor.proofs.options.element_option.Goals as goal

pub returns-then-not-is_at : goal.returns-then-not-is_at
returns-then-not-is_at c = upon c.in_ok-name.ensures (left_out _ (led _ _ _ refl ∙ sym c.is_at.ensures ∙ c.if-not-is_at.true) (λ n p. refl))

pub returns : goal.returns
returns c = upon c.in_ok-name.ensures (there (led _ _ _ refl ∙ sym c.is_at.ensures ∙ c.if-not-is_at.false)
    (upon c.take.ensures (so c.in_ok-value.ensures (λ v r equals q n p. rw (← p, ← r) c.is_association.ensures))))
