use Rattle.g4_cursor.proofs.Moving.{upon, so}
use Rattle.g4_cursor.proofs.options.options.Goals as goal

pub returns : goal.returns
returns c = upon c.take_word.ensures (upon c.take.ensures
    (upon c.in_ok-settings.ensures (so c.take-2.ensures (λ end_brace s v r brace q keyword p. r))))
