use Rattle.g4_lexer.proofs.Unique.{one_lexing}
use Rattle.g4_lexer.proofs.law.one_lexing_within.Goals as goal

pub returns : goal.returns
returns c = one_lexing
