use Rattle.std.proofs.Common.{refl, ◌∙◌}
use Rattle.g4_cursor.proofs.Moving.{so}
use Rattle.g4_productions.proofs.token_set.excluded_tokens.Goals as goal

pub returns : goal.returns
returns c = so c.in_ok-add_set.ensures (λ tree p. c.new.ensures ∙ p ∙ rw c.new-references.ensures.items refl)
