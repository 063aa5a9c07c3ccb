use Rattle.g4_spelling.proofs.Begins.{may_started, started_may}
use Rattle.g4_spelling.proofs.law.started_where_written.Goals as goal

pub returns : goal.returns
returns c = λ literals others modes made lex can m starts is r i.
    (started_may literals others modes made lex can m starts is r i, may_started literals others modes made lex can m starts is r i)
