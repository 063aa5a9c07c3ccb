use Rattle.g4_run.proofs.Derived.{tree_derives}
use Rattle.g4_run.proofs.law.trees_are_derived.Goals as goal

pub returns : goal.returns
returns c = λ set rules numberings start net values word tree built once run.
    tree_derives set rules numberings start net values word tree built once run
