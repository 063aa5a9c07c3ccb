use Rattle.std.proofs.Common.{refl, sym, ◌∙◌}
use Rattle.g4_cursor.proofs.Moving.{led, either}
use Rattle.g4_cursor.proofs.passing.is_at_declaration.Goals as goal

pub returns : goal.returns
returns c = either _ _ _ (c.is_at_word.ensures ∙ sym (led _ _ _ refl)) (c.is_at.ensures ∙ sym (led _ _ _ refl))
