use Rattle.std.proofs.Common.{sym, ◌∙◌}
use Rattle.g4_cursor.proofs.Moving.{takes, stops_at, never_name}
use Rattle.g4_cursor.proofs.cursor.Cursor.take_name.Goals as goal

pub returns-then-is_at_name : goal.returns-then-is_at_name
returns-then-is_at_name c = takes _ _ (sym c.is_at_name.ensures ∙ c.if-is_at_name.true) (never_name _) c.advance.ensures

pub returns-else-is_at_name : goal.returns-else-is_at_name
returns-else-is_at_name c = stops_at _ _ (sym c.is_at_name.ensures ∙ c.if-is_at_name.false) (never_name _) c.stop.ensures
