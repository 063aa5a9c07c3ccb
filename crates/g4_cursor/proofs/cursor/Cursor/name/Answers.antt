use Rattle.std.proofs.Common.{refl}
use Rattle.g4_cursor.proofs.Moving.{so}
use Rattle.g4_cursor.proofs.cursor.Cursor.name.Goals as goal

pub returns : goal.returns
returns c = so c.take_name-taken.ensures (λ tree is. rw (c.in_ok-text.ensures, is.text, is.place) refl)
