use Rattle.g4_checks.proofs.reference_law.one_reference_check.Goals as goal
use Rattle.g4_checks.proofs.OneReference.{no_fault, one_fault}

pub returns-clause-one : goal.returns-clause-one
returns-clause-one c = one_fault

pub returns-clause-none : goal.returns-clause-none
returns-clause-none c = no_fault
