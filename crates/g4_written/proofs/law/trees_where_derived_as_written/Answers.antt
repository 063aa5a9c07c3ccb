use Rattle.g4_written.proofs.Accepted.{tree_where_derived}
use Rattle.g4_written.proofs.law.trees_where_derived_as_written.Goals as goal

pub returns : goal.returns
returns c = λ set rules start net values word ending can none built once run shallow.
    tree_where_derived set rules start net values word built ending can none once run shallow
