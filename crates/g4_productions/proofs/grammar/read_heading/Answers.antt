use Rattle.g4_cursor.proofs.Moving.{so, upon}
use Rattle.g4_productions.proofs.grammar.read_heading.Goals as goal

pub returns : goal.returns
returns c = upon c.in_ok-name.ensures (upon c.take.ensures (so c.in_ok-prequels.ensures (λ ps r semicolon q n p. (p, r))))
