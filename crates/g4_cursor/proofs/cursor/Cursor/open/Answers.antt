use Rattle.g4_cursor.proofs.Moving.{passed}
use Rattle.g4_cursor.proofs.cursor.Cursor.open.Goals as goal

pub returns-clause-moves : goal.returns-clause-moves
returns-clause-moves c = passed c.take.ensures
