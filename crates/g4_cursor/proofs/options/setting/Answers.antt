use Rattle.std.proofs.Common.{refl}
use Rattle.g4_cursor.proofs.Moving.{upon, so}
use Rattle.g4_cursor.proofs.options.setting.Goals as goal

pub returns : goal.returns
returns c = upon c.in_ok-name.ensures (upon c.take.ensures
    (upon c.in_ok-value.ensures (so c.take-2.ensures (λ semicolon s v r equals q n p. rw (r, p) refl))))
