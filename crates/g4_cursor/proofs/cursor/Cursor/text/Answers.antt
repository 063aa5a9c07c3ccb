use Rattle.std.proofs.Common.{◌∙◌}
use Rattle.g4_cursor.proofs.Moving.{so}
use Rattle.g4_cursor.proofs.cursor.Cursor.text.Goals as goal

pub returns : goal.returns
returns c = so c.take-taken.ensures (λ tree is. c.in_ok-text.ensures ∙ is.text)
