use Rattle.std.proofs.Common.{refl, sym, ◌∙◌}
use Rattle.g4_cursor.proofs.Moving.{passed, first, second, led}
use Rattle.g4_cursor.proofs.passing.pass_declaration.Goals as goal

pub returns-then-is_at_word : goal.returns-then-is_at_word
returns-then-is_at_word c = first (led _ _ _ refl ∙ sym c.is_at_word.ensures ∙ c.if-is_at_word.true) (passed c.in_ok-options.ensures)

pub returns : goal.returns
returns c = second (led _ _ _ refl ∙ sym c.is_at_word.ensures ∙ c.if-is_at_word.false) c.pass_rule_action.ensures
