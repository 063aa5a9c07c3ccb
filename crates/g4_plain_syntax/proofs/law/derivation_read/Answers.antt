use Rattle.std.proofs.Common.{[], refl}
use Rattle.g4_plain_syntax.proofs.Decided.{grammar_decided}
use Rattle.g4_plain_syntax.proofs.Reading.{reads}
use Rattle.g4_plain_syntax.proofs.law.derivation_read.Goals as goal

pub returns : goal.returns
returns c = λ tokens tree plain derives. reads tree tokens [] grammar_decided plain refl derives
