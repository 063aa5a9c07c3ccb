use Rattle.g4_leftrec.proofs.Parts.{primaries_and_operators}
use Rattle.g4_leftrec.proofs.law.each_alternative_is_kept.Goals as goal

pub returns : goal.returns
returns g c = λ is_self alternatives. primaries_and_operators is_self alternatives
