use Rattle.std.proofs.Common.{false, List, ℕ, ap, subst, ◌∙◌}
use Rattle.g4_trees.specs.Appending.{Adds}
use Rattle.g4_trees.specs.Pieces.{items_text}
use Rattle.g4_trees.proofs.Printed.{text_printed}
use Rattle.g4_trees.proofs.tree.Tree.print.Goals as goal

pub returns : goal.returns
returns g c = λ t is.
    subst (λ (added : List ℕ). Adds added c.args.out.now.items c.push_items.new.out.items c.push_items.result)
    (ap (items_text c.args.rules.now c.args.tokens.now false) (c.items.ensures ∙ is)
    ∙ text_printed c.args.rules.now c.args.tokens.now t) c.push_items.ensures
