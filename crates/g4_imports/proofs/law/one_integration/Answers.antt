use Rattle.g4_imports.proofs.OneIntegration as one
use Rattle.g4_imports.proofs.law.one_integration.Goals as goal

pub returns-clause-fault : goal.returns-clause-fault
returns-clause-fault c = λ grammar a b h k. one.one_fault grammar a b h k

pub returns-clause-none : goal.returns-clause-none
returns-clause-none c = λ grammar fault none h. one.no_fault grammar fault none h

pub returns-clause-composites : goal.returns-clause-composites
returns-clause-composites c = λ files lexer a b h k. one.one_composites files lexer a b h k
