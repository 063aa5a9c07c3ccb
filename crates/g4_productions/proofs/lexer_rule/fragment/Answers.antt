use Rattle.std.proofs.Common.{refl, sym, ◌∙◌}
use Rattle.g4_cursor.proofs.Moving.{so, left_out, there}
use Rattle.g4_productions.proofs.lexer_rule.fragment.Goals as goal

pub returns-then-not-is_at_word : goal.returns-then-not-is_at_word
returns-then-not-is_at_word c = left_out _ (sym c.is_at_word.ensures ∙ c.if-not-is_at_word.true) refl

pub returns : goal.returns
returns c = there (sym c.is_at_word.ensures ∙ c.if-not-is_at_word.false) (so c.take_word.ensures (λ tree p. refl))
