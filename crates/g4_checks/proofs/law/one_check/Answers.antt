use Rattle.g4_checks.proofs.law.one_check.Goals as goal
use Rattle.g4_checks.proofs.OneCheck.{no_fault, one_fault}

pub returns-clause-one : goal.returns-clause-one
returns-clause-one c = one_fault

pub returns-clause-none : goal.returns-clause-none
returns-clause-none c = no_fault
