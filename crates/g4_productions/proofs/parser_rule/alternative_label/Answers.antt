use Rattle.std.proofs.Common.{refl, sym, ◌∙◌}
use Rattle.g4_cursor.proofs.Moving.{so, upon, left_out, there, led}
use Rattle.g4_productions.proofs.parser_rule.alternative_label.Goals as goal

pub returns-then-not-is_at : goal.returns-then-not-is_at
returns-then-not-is_at c = left_out _ (led _ _ _ refl ∙ sym c.is_at.ensures ∙ c.if-not-is_at.true) refl

pub returns : goal.returns
returns c = there (led _ _ _ refl ∙ sym c.is_at.ensures ∙ c.if-not-is_at.false)
    (upon c.take.ensures (so c.in_ok-name.ensures (λ n q hash p. rw q refl)))
