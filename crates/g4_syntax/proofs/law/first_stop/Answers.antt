use Rattle.std.proofs.Common.{◌++◌, refl}
use Rattle.g4_syntax.proofs.FirstStop.{begins_text, ends_text}
use Rattle.g4_syntax.proofs.law.first_stop.Goals as goal

pub returns : goal.returns
returns c = λ before rest stop. (begins_text (before ++ rest) before rest refl stop, ends_text (before ++ rest) before rest refl stop)
