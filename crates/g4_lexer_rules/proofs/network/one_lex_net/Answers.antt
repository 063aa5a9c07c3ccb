use Rattle.g4_lexer_rules.proofs.Laws.{one_lex_net}
use Rattle.g4_lexer_rules.proofs.network.one_lex_net.Goals as goal

pub returns : goal.returns
returns c = one_lex_net
