use Rattle.std.proofs.Common.{refl}
use Rattle.g4_cursor.proofs.spelling.literal.Goals as goal

pub returns : goal.returns
returns c = rw (c.in_ok-characters.ensures, c.deref.ensures.value, c.in_ok-spelling.ensures, c.in_ok-written.ensures) refl
