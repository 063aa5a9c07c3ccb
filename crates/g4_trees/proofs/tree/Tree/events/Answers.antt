use Rattle.std.proofs.Common.{◌≡◌, [], List, ap, subst, ◌∙◌}
use Rattle.std.specs.Prelude.{IfOk}
use Rattle.g4_trees.specs.declared.events.Event.{Event}
use Rattle.g4_trees.specs.Steps.{events_from}
use Rattle.g4_trees.proofs.TreeLines.{events_from_tree}
use Rattle.g4_trees.proofs.tree.Tree.events.Goals as goal

pub returns : goal.returns
returns c = λ t is. subst (λ (all : List Event). IfOk c.events_among.result (λ v. v.items ≡ all))
    (ap (events_from []) (c.items.ensures ∙ is) ∙ events_from_tree t) c.events_among.ensures
