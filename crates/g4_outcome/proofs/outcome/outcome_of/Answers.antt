use Rattle.g4_outcome.specs.Outcomes.{too_large}
use Rattle.g4_outcome.proofs.Taught.{large_taught}
use Rattle.g4_outcome.proofs.outcome.outcome_of.Goals as goal

pub returns-in-TooLarge-clause-outcome : goal.returns-in-TooLarge-clause-outcome
returns-in-TooLarge-clause-outcome g c = too_large c.in-TooLarge.size c.in-TooLarge.is

pub returns-in-TooLarge-clause-taught : goal.returns-in-TooLarge-clause-taught
returns-in-TooLarge-clause-taught g c = rw c.in-TooLarge.is (large_taught g.B.Home.plan _ c.in-TooLarge.size _)
