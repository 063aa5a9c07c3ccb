use Rattle.g4_trees.proofs.Appended.{adds_front}
use Rattle.g4_trees.proofs.Printed.{front_of_item}
use Rattle.g4_trees.proofs.text.push_items.Goals as goal

pub returns-in_err-push_item : goal.returns-in_err-push_item
returns-in_err-push_item g c =
    adds_front _ _ _ _ _ c.from_residual.ensures.1
    (front_of_item c.args.rules.now c.args.tokens.now c.loop-rest.entered c.loop-rest.rest.now _ _ _ c.loop-rest.out.items _
    c.in-len1-up.len_at_least c.loop-rest.invariant c.in_err-push_item.ensures)
