use Rattle.g4_spelling.proofs.Matched.{alone_derives, derived_alone}
use Rattle.g4_spelling.proofs.law.matches_where_derived.Goals as goal

pub returns : goal.returns
returns c = λ literals others modes made lex can canonical starts among text r i n written. (
  alone_derives literals others modes made lex can canonical starts among text r i n written,
  derived_alone literals others modes made lex can canonical starts among text r i n written,
)
