use Rattle.std.proofs.Common.{refl}
use Rattle.g4_cursor.proofs.Moving.{so}
use Rattle.g4_cursor.proofs.cursor.Cursor.named.Goals as goal

pub returns : goal.returns
returns c = so c.take-taken.ensures (λ tree is. rw (c.in_ok-text.ensures, is.text, is.place) refl)
