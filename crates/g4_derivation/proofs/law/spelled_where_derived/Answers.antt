use Rattle.g4_derivation.proofs.Derived.{built_spells}
use Rattle.g4_derivation.proofs.law.spelled_where_derived.Goals as goal

pub returns : goal.returns
returns c = λ set rules numberings start net built. built_spells set rules numberings start net built
