use Rattle.g4_guards.proofs.Granted.{chosen_allowed}
use Rattle.g4_guards.proofs.law.chooses_what_is_allowed.Goals as goal

pub returns : goal.returns
returns g c = λ net d z w i chooses. chosen_allowed net d g.A.Alternatives.include z w i chooses
