use Rattle.g4_spelling.proofs.Matched.{best_match, match_best}
use Rattle.g4_spelling.proofs.law.match_by_derivation.Goals as goal

pub returns : goal.returns
returns c = λ literals others modes made lex can canonical starts among text n rule alternative. (
  match_best literals others modes made lex can canonical starts among text n rule alternative,
  best_match literals others modes made lex can canonical starts among text n rule alternative,
)
