use Rattle.g4_spelling.proofs.Derived.{derived_spells, spelled_derives}
use Rattle.g4_spelling.proofs.law.spelled_where_derived.Goals as goal

pub returns : goal.returns
returns c = λ literals others modes made lex can canonical r i a x alternative begins w z. (
  spelled_derives literals others modes made lex can canonical r i a x alternative begins w z,
  derived_spells literals others modes made lex can canonical r i a x alternative begins w z,
)
