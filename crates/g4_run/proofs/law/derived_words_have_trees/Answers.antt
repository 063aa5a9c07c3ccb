use Rattle.g4_run.proofs.Derived.{derived_ends}
use Rattle.g4_run.proofs.law.derived_words_have_trees.Goals as goal

pub returns : goal.returns
returns c = λ set rules start net values word ending can none built derived run.
    derived_ends set rules start net values word ending can none built derived run
