use Rattle.g4_written.proofs.Accepted.{tree_is_derived}
use Rattle.g4_written.proofs.law.trees_are_derived_as_written.Goals as goal

pub returns : goal.returns
returns c = λ set rules start net values word tree built once run. tree_is_derived set rules start net values word built tree once run
