use Rattle.std.proofs.Common.{ℕ, List, length, sym, ap, ◌∙◌, subst}
use Rattle.g4_classes.specs.Blocks.{AreLeast}
use Rattle.g4_classes.specs.Columns.{AreRanks}
use Rattle.g4_classes.proofs.Ranking.{are_columns}
use Rattle.g4_classes.proofs.columns.columns_of.Goals as goal

pub ranks_of-requires-clause-least : goal.ranks_of-requires-clause-least
ranks_of-requires-clause-least c = (
  c.in_ok-partition.partition.blocks.items,
  subst (AreLeast c.in_ok-partition.partition.blocks.items) (sym c.as_slice.ensures.value) c.in_ok-least.ensures,
)

pub returns : goal.returns
returns c =
    let p = c.in_ok-partition.partition in
    let least = c.in_ok-least.least.items in
    let columns = c.in_ok-columns.columns in
    are_columns c.args.net.now p.blocks.items least columns.0 columns.1 p.count c.in_ok-partition.ensures c.in_ok-least.ensures
    (subst (λ (xs : List ℕ). AreRanks 4098 xs columns.0 columns.1) c.as_slice.ensures.value c.in_ok-columns.ensures)
