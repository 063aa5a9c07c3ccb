use Rattle.g4_cursor.proofs.Moving.{so, upon}
use Rattle.g4_cursor.proofs.prequel.names.Goals as goal

pub returns : goal.returns
returns c = upon c.take.ensures (upon c.in_ok-names.ensures (so c.take-2.ensures (λ end_brace r ns q brace p. q)))
