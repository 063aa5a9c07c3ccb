use Rattle.g4_resolve.proofs.Unpredicated.{resolved_unpredicated}
use Rattle.g4_resolve.proofs.law.untested_rules_are_unpredicated.Goals as goal

pub returns : goal.returns
returns c = resolved_unpredicated
