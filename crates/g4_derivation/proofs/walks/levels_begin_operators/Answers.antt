use Rattle.g4_derivation.specs.Letters.{NamesRule, TakesSymbol}
use Rattle.g4_derivation.proofs.Rewritten.{operator_begins}
use Rattle.g4_derivation.proofs.walks.levels_begin_operators.Goals as goal

pub returns : goal.returns
returns c = λ set rules start net can built. operator_begins TakesSymbol NamesRule set rules start net can built
