use Rattle.std.proofs.Common.{refl, ◌∙◌}
use Rattle.g4_cursor.proofs.Moving.{so}
use Rattle.g4_productions.proofs.set.excluded_character.Goals as goal

pub returns : goal.returns
returns c = so c.in_ok-taken.ensures (λ tree p. c.in_ok-character.ensures ∙ rw p.text refl)
