use Rattle.std.proofs.Common.{refl, sym, ◌∙◌}
use Rattle.g4_cursor.proofs.Moving.{so, first, second}
use Rattle.g4_productions.proofs.lexer_rule.argument_text.Goals as goal

pub returns-then-is_at_name : goal.returns-then-is_at_name
returns-then-is_at_name c = first (sym c.is_at_name.ensures ∙ c.if-is_at_name.true) (so c.in_ok-name.ensures (λ n p. rw p refl))

pub returns : goal.returns
returns c = second (sym c.is_at_name.ensures ∙ c.if-is_at_name.false) (so c.in_ok-number.ensures (λ n p. rw p refl))
