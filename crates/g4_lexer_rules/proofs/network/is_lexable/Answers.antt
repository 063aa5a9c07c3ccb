use Rattle.g4_lexer_rules.proofs.Lexed as lexed
use Rattle.g4_lexer_rules.proofs.network.is_lexable.Goals as goal

pub returns : goal.returns
returns c = lexed.is_lexable
