use Rattle.g4_guards.proofs.Choosing.{choice_over}
use Rattle.g4_guards.proofs.law.choice_over_the_same.Goals as goal

pub returns : goal.returns
returns g c = λ net d z w choice same chooses.
    choice_over net d g.A.Alternatives.include g.B.Alternatives.include same z w choice chooses
