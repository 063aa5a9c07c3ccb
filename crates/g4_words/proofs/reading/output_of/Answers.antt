use Rattle.std.proofs.Common.{refl}
use Rattle.g4_words.proofs.Outputs.{not_both}
use Rattle.g4_words.proofs.reading.output_of.Goals as goal

pub returns-in-true-true : goal.returns-in-true-true
returns-in-true-true c = not_both _ (c.in-true-true.ensures.0 refl) (c.in-true-true.ensures'.0 refl)
