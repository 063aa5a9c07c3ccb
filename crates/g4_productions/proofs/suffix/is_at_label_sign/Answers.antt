use Rattle.g4_cursor.proofs.Moving.{either}
use Rattle.g4_productions.proofs.suffix.is_at_label_sign.Goals as goal

pub returns : goal.returns
returns c = either _ _ _ c.is_at.ensures c.is_at-2.ensures
