use Rattle.g4_derivation.specs.Letters.{NamesRule, TakesSymbol}
use Rattle.g4_derivation.proofs.Rewritten.{one_begins}
use Rattle.g4_derivation.proofs.walks.rules_start_with_one.Goals as goal

pub returns : goal.returns
returns c = λ set rules start net can built. one_begins TakesSymbol NamesRule set rules start net can built
