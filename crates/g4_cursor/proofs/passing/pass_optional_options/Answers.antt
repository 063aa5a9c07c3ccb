use Rattle.std.proofs.Common.{refl, sym, ◌∙◌}
use Rattle.g4_cursor.proofs.Moving.{passed, left_out, there, led}
use Rattle.g4_cursor.proofs.passing.pass_optional_options.Goals as goal

pub returns-then-not-is_at_word : goal.returns-then-not-is_at_word
returns-then-not-is_at_word c = left_out _ (led _ _ _ refl ∙ sym c.is_at_word.ensures ∙ c.if-not-is_at_word.true) tt

pub returns : goal.returns
returns c = there (led _ _ _ refl ∙ sym c.is_at_word.ensures ∙ c.if-not-is_at_word.false) (passed c.in_ok-options.ensures)
