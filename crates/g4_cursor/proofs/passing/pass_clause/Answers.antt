use Rattle.std.proofs.Common.{refl, sym, ◌∙◌}
use Rattle.g4_cursor.proofs.Moving.{passed, after, left_out, there, led}
use Rattle.g4_cursor.proofs.passing.pass_clause.Goals as goal

pub returns-then-is_at_word : goal.returns-then-is_at_word
returns-then-is_at_word c = there (led _ _ _ refl ∙ sym c.is_at_word.ensures ∙ c.if-is_at_word.true)
    (after c.take_word.ensures (passed c.take.ensures))

pub returns-else-is_at_word : goal.returns-else-is_at_word
returns-else-is_at_word c = left_out _ (led _ _ _ refl ∙ sym c.is_at_word.ensures ∙ c.if-is_at_word.false) tt
