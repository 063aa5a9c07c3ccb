use Rattle.g4_syntax.proofs.Total as total
use Rattle.g4_syntax.proofs.law.text_or_stop.Goals as goal

pub returns : goal.returns
returns c = λ tokens. total.text_or_stop tokens
