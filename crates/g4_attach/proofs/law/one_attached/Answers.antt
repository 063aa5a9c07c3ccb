use Rattle.g4_attach.proofs.OneAttached as one
use Rattle.g4_attach.proofs.law.one_attached.Goals as goal

pub returns : goal.returns
returns c = λ table parser lexer a b p q n m. one.one_attached table parser lexer a b p q n m
