use Rattle.g4_checks.proofs.ParserPredicates.{no_predicates}
use Rattle.g4_checks.proofs.law.no_predicates.Goals as goal

pub returns : goal.returns
returns c = no_predicates
