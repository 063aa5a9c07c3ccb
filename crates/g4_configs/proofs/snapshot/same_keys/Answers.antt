use Rattle.std.proofs.lemmas.Slice.Eq.{slice_eq-Decides}
use Rattle.g4_stacks.proofs.Shapes.{pairs_Decides}
use Rattle.g4_configs.proofs.snapshot.same_keys.Goals as goal

pub returns : goal.returns
returns c = slice_eq-Decides pairs_Decides c.args.left.now c.args.right.now c.eq.result c.eq.ensures
