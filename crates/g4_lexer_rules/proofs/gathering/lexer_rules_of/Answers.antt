use Rattle.g4_lexer_rules.proofs.Made.{each, full, low}
use Rattle.g4_lexer_rules.proofs.gathering.lexer_rules_of.Goals as goal

pub returns-clause-each : goal.returns-clause-each
returns-clause-each c = each c.args.names.now c.args.literals c.args.rules c.in_ok-made.made c.in_ok-made.ensures

pub returns-clause-low : goal.returns-clause-low
returns-clause-low c = low c.args.names.now c.args.literals c.args.rules c.in_ok-made.made c.in_ok-made.ensures

pub returns-clause-full : goal.returns-clause-full
returns-clause-full c = full c.args.names.now c.args.literals c.args.rules c.in_ok-made.made c.in_ok-made.ensures
