use Rattle.std.proofs.Common.{refl, ◌∙◌}
use Rattle.g4_productions.proofs.set.character_with.Goals as goal

pub returns : goal.returns
returns c = c.first_character.ensures ∙ rw (c.as_slice.ensures, c.in_ok-literal.ensures) refl
