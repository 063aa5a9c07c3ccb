use Rattle.g4_trees.proofs.Appended.{adds_last, adds_same, stops_in_first}
use Rattle.g4_trees.proofs.Parts.{end_parts}
use Rattle.g4_trees.proofs.line.push_end_line.Goals as goal

pub returns-in_err-push_start : goal.returns-in_err-push_start
returns-in_err-push_start c = adds_same _ _ _ _ _ (end_parts c.args.name.now c.args.place)
    (stops_in_first _ _ _ _ _ _ c.from_residual.ensures.1 c.in_err-push_start.ensures)

pub returns : goal.returns
returns c = adds_same _ _ _ _ _ (end_parts c.args.name.now c.args.place)
    (adds_last _ _ _ _ _ _ c.in_ok-push_start.ensures c.push_all.ensures)
