use Rattle.g4_spelling.proofs.EndOfFile.{matches_at_end, takes_nothing}
use Rattle.g4_spelling.proofs.law.end_of_file_takes_nothing.Goals as goal

pub returns : goal.returns
returns c = λ rules a is w z. (takes_nothing rules a is w z, matches_at_end rules a is w z)
