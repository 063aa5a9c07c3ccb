use Rattle.g4_derivation.specs.Letters.{NamesRule, TakesSymbol}
use Rattle.g4_derivation.proofs.Rewritten.{never_to_outer_start}
use Rattle.g4_derivation.proofs.walks.no_edge_to_outer_starts.Goals as goal

pub returns : goal.returns
returns c = λ set rules start net can built. never_to_outer_start TakesSymbol NamesRule set rules start net can built
