use Rattle.std.proofs.Common.{List, ◌∙◌, subst}
use Rattle.g4_configs.specs.Configs.{Holds}
use Rattle.g4_configs.specs.Configs as sets
use Rattle.g4_decide.specs.Going.{HasSet}
use Rattle.g4_net.specs.Configurations.{Config, IsRow}
use Rattle.std.specs.Prelude.{Option}
use Rattle.g4_decide.proofs.stepping.set_of.Goals as goal

pub row-requires : goal.row-requires
row-requires g c = let (y, known, has) = c.requires in (y, known)

pub returns-in-Some-clause-set : goal.returns-in-Some-clause-set
returns-in-Some-clause-set g c = λ y known has.
    rw c.in-Some.is (subst (λ (o : Option sets.View). HasSet o y) c.in-Some.is has)

pub returns-in_ok-set-in-None-clause-set : goal.returns-in_ok-set-in-None-clause-set
returns-in_ok-set-in-None-clause-set g c = λ y known has.
    subst (λ (r : List Config). IsRow r (Holds c.in_ok-set-in-None.set)) (c.snapshot.ensures ∙ c.in_ok-kept-in-None.ensures.row y known)
    c.in_ok-set-in-None.ensures
