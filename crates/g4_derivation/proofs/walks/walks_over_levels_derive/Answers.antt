use Rattle.g4_derivation.specs.Letters.{NamesRule, TakesSymbol}
use Rattle.g4_derivation.specs.Walks.{AnyLevel}
use Rattle.g4_derivation.proofs.Words as words
use Rattle.g4_derivation.proofs.walks.walks_over_levels_derive.Goals as goal

pub returns : goal.returns
returns c = λ rules net network k xs is i a x alternative start w. (
  λ walk. words.walk_derives TakesSymbol NamesRule AnyLevel rules net network k xs is i a x alternative start walk.0 w walk.1,
  λ derived. words.derived_walks TakesSymbol NamesRule AnyLevel rules net network k xs is i a x alternative start w derived,
)
