use Rattle.g4_lexer_rules.proofs.Matches.{sets_match}
use Rattle.g4_lexer_rules.proofs.network.sets_match.Goals as goal

pub returns : goal.returns
returns c = sets_match
