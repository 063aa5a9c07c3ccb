use Rattle.g4_lexer_rules.proofs.Laws.{states_are_counted}
use Rattle.g4_lexer_rules.proofs.network.states_are_counted.Goals as goal

pub returns : goal.returns
returns c = states_are_counted
