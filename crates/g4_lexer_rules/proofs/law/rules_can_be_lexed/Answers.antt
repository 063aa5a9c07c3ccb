use Rattle.g4_lexer_rules.proofs.Checked.{can_be_lexed}
use Rattle.g4_lexer_rules.proofs.law.rules_can_be_lexed.Goals as goal

pub returns : goal.returns
returns c = can_be_lexed
