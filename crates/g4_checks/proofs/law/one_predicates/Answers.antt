use Rattle.g4_checks.proofs.ParserPredicates.{one_predicates}
use Rattle.g4_checks.proofs.law.one_predicates.Goals as goal

pub returns : goal.returns
returns c = one_predicates
