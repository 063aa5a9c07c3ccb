use Rattle.std.proofs.Common.{refl, ◌∙◌}
use Rattle.g4_cursor.proofs.Moving.{so}
use Rattle.g4_productions.proofs.set.character.Goals as goal

pub returns : goal.returns
returns c = so c.take-taken.ensures (λ tree p. c.in_ok-character.ensures ∙ rw p.text refl)
