use Rattle.std.proofs.Common.{sym, ◌∙◌}
use Rattle.g4_cursor.proofs.Moving.{takes, stops_at, never_word}
use Rattle.g4_cursor.proofs.cursor.Cursor.take_word.Goals as goal

pub returns-then-is_at_word : goal.returns-then-is_at_word
returns-then-is_at_word c = takes _ _ (sym c.is_at_word.ensures ∙ c.if-is_at_word.true) (never_word c.args.spelling.now _) c.advance.ensures

pub returns-else-is_at_word : goal.returns-else-is_at_word
returns-else-is_at_word c = stops_at _ _ (sym c.is_at_word.ensures ∙ c.if-is_at_word.false) (never_word c.args.spelling.now _)
    c.stop.ensures
