use Rattle.g4_recursion.proofs.Running.{can_run}
use Rattle.g4_checks.proofs.Defined.{rules_defined}
use Rattle.g4_checks.proofs.checking.check.Goals as goal

pub returns-clause-defined : goal.returns-clause-defined
returns-clause-defined c = rules_defined c.args.source.now c.in_ok-references_checked.ensures.0.0.0.0.0.0

pub returns-clause-run : goal.returns-clause-run
returns-clause-run c = can_run c.args.source.now.rules c.in_ok-recursion_checked.ensures
