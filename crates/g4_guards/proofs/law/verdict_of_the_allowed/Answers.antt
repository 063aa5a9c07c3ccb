use Rattle.g4_guards.proofs.Same.{full_alike, sll_alike}
use Rattle.g4_guards.proofs.law.verdict_of_the_allowed.Goals as goal

pub returns-clause-sll : goal.returns-clause-sll
returns-clause-sll g c = λ net d e w v path alike h. sll_alike net d e g.A.Alternatives.include g.B.Alternatives.include alike w v path h

pub returns-clause-full : goal.returns-clause-full
returns-clause-full g c = λ net d e z w b alike h. full_alike net d e g.A.Alternatives.include g.B.Alternatives.include alike z w b h
