use Rattle.g4_spelling.proofs.Eager.{greedy_rule}
use Rattle.g4_spelling.proofs.law.greedy_where_written.Goals as goal

pub returns : goal.returns
returns c = λ literals others modes made lex can starts among r written.
    greedy_rule literals others modes made lex can starts among r written
