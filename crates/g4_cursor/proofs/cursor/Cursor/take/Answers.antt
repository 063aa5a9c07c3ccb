use Rattle.std.proofs.Common.{sym, ◌∙◌}
use Rattle.g4_cursor.proofs.Moving.{takes, stops_at, never_kind}
use Rattle.g4_cursor.proofs.cursor.Cursor.take.Goals as goal

pub returns-then-is_at : goal.returns-then-is_at
returns-then-is_at c = takes _ _ (sym c.is_at.ensures ∙ c.if-is_at.true) (never_kind c.args.kind _) c.advance.ensures

pub returns-else-is_at : goal.returns-else-is_at
returns-else-is_at c = stops_at _ _ (sym c.is_at.ensures ∙ c.if-is_at.false) (never_kind c.args.kind _) c.stop.ensures
