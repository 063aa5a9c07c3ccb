use Rattle.g4_derivation.specs.Letters.{NamesRule, TakesSymbol}
use Rattle.g4_derivation.specs.Walks.{NoLevel}
use Rattle.g4_derivation.proofs.Words as words
use Rattle.g4_derivation.proofs.walks.walks_derive.Goals as goal

pub returns : goal.returns
returns c = λ rules net network k xs is i a x alternative start w. (
  λ walk. words.walk_derives TakesSymbol NamesRule NoLevel rules net network k xs is i a x alternative start walk.0 w walk.1,
  λ derived. words.derived_walks TakesSymbol NamesRule NoLevel rules net network k xs is i a x alternative start w derived,
)
