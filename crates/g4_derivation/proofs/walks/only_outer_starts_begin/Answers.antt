use Rattle.g4_derivation.specs.Letters.{NamesRule, TakesSymbol}
use Rattle.g4_derivation.proofs.Rewritten.{unbegun}
use Rattle.g4_derivation.proofs.walks.only_outer_starts_begin.Goals as goal

pub returns : goal.returns
returns c = λ set rules start net can built. unbegun TakesSymbol NamesRule set rules start net can built
