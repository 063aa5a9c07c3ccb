use Rattle.g4_recursion.proofs.law.one_recursion.Goals as goal
use Rattle.g4_recursion.proofs.OneAnswer.{no_fault, one_fault}

pub returns-clause-one : goal.returns-clause-one
returns-clause-one c = one_fault

pub returns-clause-none : goal.returns-clause-none
returns-clause-none c = no_fault
