use Rattle.g4_lexer.specs.declared.lexing.TheConstants.{MOST_TOKENS}
use Rattle.g4_lexer.proofs.Unique.{one_answer}
use Rattle.g4_lexer.proofs.law.one_lexing.Goals as goal

pub returns : goal.returns
returns c = λ lexer. one_answer lexer MOST_TOKENS
