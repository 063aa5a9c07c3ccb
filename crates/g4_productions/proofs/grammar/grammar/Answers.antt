use Rattle.std.proofs.Common.{refl, sym, ◌∙◌}
use Rattle.g4_cursor.proofs.Moving.{first, second, led}
use Rattle.g4_productions.proofs.grammar.grammar.Goals as goal

pub returns-then-is_at_word : goal.returns-then-is_at_word
returns-then-is_at_word c = first (led _ _ _ refl ∙ sym c.is_at_word.ensures ∙ c.if-is_at_word.true) c.in_ok-source.ensures

pub returns-then-is_at_word-2 : goal.returns-then-is_at_word-2
returns-then-is_at_word-2 c = second (led _ _ _ refl ∙ sym c.is_at_word.ensures ∙ c.if-is_at_word.false)
    (first (led _ _ _ refl ∙ sym c.is_at_word-2.ensures ∙ c.if-is_at_word-2.true) c.in_ok-source-2.ensures)

pub returns : goal.returns
returns c = second (led _ _ _ refl ∙ sym c.is_at_word.ensures ∙ c.if-is_at_word.false)
    (second (led _ _ _ refl ∙ sym c.is_at_word-2.ensures ∙ c.if-is_at_word-2.false) c.in_ok-source-3.ensures)
