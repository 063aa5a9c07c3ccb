use Rattle.std.proofs.Common.{[], refl}
use Rattle.g4_syntax.proofs.Unique.{one_reading}
use Rattle.g4_plain_syntax.proofs.Decided.{grammar_decided}
use Rattle.g4_plain_syntax.proofs.Reading.{reads}
use Rattle.g4_plain_syntax.proofs.law.one_derivation.Goals as goal

pub returns : goal.returns
returns c = λ tokens a b plain also derives other.
    (one_reading a b tokens [] [] (reads a tokens [] grammar_decided plain refl derives)
    (reads b tokens [] grammar_decided also refl other)).0
