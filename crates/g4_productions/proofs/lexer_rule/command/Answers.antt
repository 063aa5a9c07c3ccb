use Rattle.std.proofs.Common.{refl}
use Rattle.g4_cursor.proofs.Moving.{so, upon}
use Rattle.g4_productions.proofs.lexer_rule.command.Goals as goal

pub returns : goal.returns
returns c = upon c.in_ok-name.ensures (so c.in_ok-argument.ensures (λ a q n p. rw (q, p) refl))
