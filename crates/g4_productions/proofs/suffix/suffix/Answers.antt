use Rattle.std.proofs.Common.{refl}
use Rattle.g4_cursor.proofs.Moving.{so}
use Rattle.g4_productions.proofs.suffix.suffix.Goals as goal

pub returns : goal.returns
returns c = so c.take_if-greedy.ensures (λ tree is. rw is refl)
