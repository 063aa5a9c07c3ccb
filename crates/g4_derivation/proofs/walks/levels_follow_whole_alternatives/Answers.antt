use Rattle.g4_derivation.specs.Letters.{NamesRule, TakesSymbol}
use Rattle.g4_derivation.proofs.Rewritten.{before_level}
use Rattle.g4_derivation.proofs.walks.levels_follow_whole_alternatives.Goals as goal

pub returns : goal.returns
returns c = λ set rules start net can built. before_level TakesSymbol NamesRule set rules start net can built
