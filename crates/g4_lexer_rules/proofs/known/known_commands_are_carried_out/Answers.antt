use Rattle.g4_lexer_rules.proofs.Carried.{all_carried_out, carried_out}
use Rattle.g4_lexer_rules.proofs.known.known_commands_are_carried_out.Goals as goal

pub returns-clause-each : goal.returns-clause-each
returns-clause-each c = λ source types command known. carried_out source types command known

pub returns-clause-all : goal.returns-clause-all
returns-clause-all c = λ source types commands known. all_carried_out source types commands known
