use Rattle.std.proofs.Common.{refl}
use Rattle.g4_cursor.proofs.Tokens.{name_next}
use Rattle.g4_cursor.proofs.cursor.Cursor.is_at_name.Goals as goal

pub returns-then-is_at : goal.returns-then-is_at
returns-then-is_at c = rw (name_next _, ← c.is_at.ensures, c.if-is_at.true) refl

pub returns-else-is_at : goal.returns-else-is_at
returns-else-is_at c = rw (name_next _, ← c.is_at.ensures, c.if-is_at.false, ← c.is_at-else-is_at.ensures) refl
