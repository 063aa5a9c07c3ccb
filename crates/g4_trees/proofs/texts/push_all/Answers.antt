use Rattle.g4_trees.proofs.Appended.{adds_so_far}
use Rattle.g4_trees.proofs.texts.push_all.Goals as goal

pub returns-in_err-extend_from_slice : goal.returns-in_err-extend_from_slice
returns-in_err-extend_from_slice c = adds_so_far _ _ _ _ _ _ _ c.from_residual.ensures.1 c.loop-text.invariant
    c.in_err-extend_from_slice.ensures.items
