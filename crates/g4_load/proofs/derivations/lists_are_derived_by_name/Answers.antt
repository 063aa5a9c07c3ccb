use Rattle.g4_load.proofs.ByName.{interpreted, unpredicated}
use Rattle.g4_load.proofs.derivations.lists_are_derived_by_name.Goals as goal

pub returns-clause-derived : goal.returns-clause-derived
returns-clause-derived c = λ files library name start f g united made unifies builds rule list.
    interpreted files library name c.rules_derive_by_name.ensures.called start f g united made unifies builds rule list

pub returns-clause-untested : goal.returns-clause-untested
returns-clause-untested c = λ files library name start f g united made unifies builds untested.
    unpredicated files library name c.untested_rules_are_unpredicated.ensures start f g united made unifies builds untested
