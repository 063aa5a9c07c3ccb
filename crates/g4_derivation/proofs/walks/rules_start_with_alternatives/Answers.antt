use Rattle.g4_derivation.specs.Letters.{NamesRule, TakesSymbol}
use Rattle.g4_derivation.proofs.Rewritten.{start_begins}
use Rattle.g4_derivation.proofs.walks.rules_start_with_alternatives.Goals as goal

pub returns : goal.returns
returns c = λ set rules start net can built. start_begins TakesSymbol NamesRule set rules start net can built
