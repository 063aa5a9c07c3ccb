use Rattle.g4_syntax.proofs.Firsts.{begins_part}
use Rattle.g4_syntax.proofs.law.first_tokens.Goals as goal

pub returns : goal.returns
returns c = λ n token. begins_part n token
