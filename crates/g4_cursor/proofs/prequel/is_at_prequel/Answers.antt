use Rattle.std.proofs.Common.{refl, sym, ◌∙◌}
use Rattle.g4_cursor.proofs.Moving.{led, either, or_assoc}
use Rattle.g4_cursor.proofs.prequel.is_at_prequel.Goals as goal

pub returns : goal.returns
returns c = simp or_assoc (either _ _ _ (c.is_at_word.ensures ∙ sym (led _ _ _ refl))
    (either _ _ _ (c.is_at_word-2.ensures ∙ sym (led _ _ _ refl))
    (either _ _ _ (c.is_at_word-3.ensures ∙ sym (led _ _ _ refl))
    (either _ _ _ (c.is_at_word-4.ensures ∙ sym (led _ _ _ refl)) (c.is_at.ensures ∙ sym (led _ _ _ refl))))))
