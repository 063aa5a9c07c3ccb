use Rattle.std.proofs.Common.{refl, sym, ◌∙◌}
use Rattle.g4_cursor.proofs.Moving.{so, upon, left_out, there, led}
use Rattle.g4_productions.proofs.lexer_rule.commands.Goals as goal

pub returns-then-not-is_at : goal.returns-then-not-is_at
returns-then-not-is_at c = left_out _ (led _ _ _ refl ∙ sym c.is_at.ensures ∙ c.if-not-is_at.true)
    (c.new-then-not-is_at.ensures ∙ c.new.ensures.items)

pub returns : goal.returns
returns c = there (led _ _ _ refl ∙ sym c.is_at.ensures ∙ c.if-not-is_at.false)
    (upon c.take.ensures (so c.in_ok-commands.ensures (λ cs q arrow p. q)))
