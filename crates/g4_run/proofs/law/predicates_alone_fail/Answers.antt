use Rattle.g4_run.proofs.Failing.{fails_at_predicate}
use Rattle.g4_run.proofs.law.predicates_alone_fail.Goals as goal

pub returns : goal.returns
returns c = λ net values word at rule ready levels run. fails_at_predicate net ready levels values word at rule run
