use Rattle.g4_guards.proofs.Choosing.{one_chosen}
use Rattle.g4_guards.proofs.law.one_choice.Goals as goal

pub returns : goal.returns
returns g c = λ net d z w b a. one_chosen net d g.A.Alternatives.include z w b a
