use Rattle.std.proofs.Common.{sym, ◌∙◌}
use Rattle.g4_cursor.proofs.Moving.{passed, first, second, left_out, there, or_here, or_there, or_nowhere}
use Rattle.g4_cursor.proofs.passing.pass_modifier.Goals as goal

pub returns-then-is_at_word : goal.returns-then-is_at_word
returns-then-is_at_word c = there (or_here _ _ _ (sym c.is_at_word.ensures ∙ c.if-is_at_word.true))
    (first (sym c.is_at_word.ensures ∙ c.if-is_at_word.true) (passed c.take_word.ensures))

pub returns-then-is_at_word-2 : goal.returns-then-is_at_word-2
returns-then-is_at_word-2 c = there (or_there _ _ _ (or_here _ _ _ (sym c.is_at_word-2.ensures ∙ c.if-is_at_word-2.true)))
    (second (sym c.is_at_word.ensures ∙ c.if-is_at_word.false)
    (first (sym c.is_at_word-2.ensures ∙ c.if-is_at_word-2.true) (passed c.take_word-then-is_at_word-2.ensures)))

pub returns-then-is_at_word-3 : goal.returns-then-is_at_word-3
returns-then-is_at_word-3 c = there (or_there _ _ _ (or_there _ _ _ (sym c.is_at_word-3.ensures ∙ c.if-is_at_word-3.true)))
    (second (sym c.is_at_word.ensures ∙ c.if-is_at_word.false)
    (second (sym c.is_at_word-2.ensures ∙ c.if-is_at_word-2.false) (passed c.take_word-then-is_at_word-3.ensures)))

pub returns-else-is_at_word-3 : goal.returns-else-is_at_word-3
returns-else-is_at_word-3 c = left_out _ (or_nowhere _ _ _ (sym c.is_at_word.ensures ∙ c.if-is_at_word.false)
    (or_nowhere _ _ _ (sym c.is_at_word-2.ensures ∙ c.if-is_at_word-2.false) (sym c.is_at_word-3.ensures ∙ c.if-is_at_word-3.false))) tt
