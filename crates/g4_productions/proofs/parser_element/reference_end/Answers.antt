use Rattle.g4_cursor.proofs.Moving.{so, upon}
use Rattle.g4_productions.proofs.parser_element.reference_end.Goals as goal

pub returns : goal.returns
returns c = upon c.take_if.ensures (so c.in_ok-right.ensures (λ options q arguments p. q))
