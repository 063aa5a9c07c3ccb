use Rattle.std.proofs.Common.{[], ap, ◌∙◌}
use Rattle.g4_trees.specs.Events.{event_lines}
use Rattle.g4_trees.specs.Steps.{events_from}
use Rattle.g4_trees.proofs.Appended.{adds_same}
use Rattle.g4_trees.proofs.TreeLines.{events_from_tree}
use Rattle.g4_trees.proofs.tree.Tree.print_events.Goals as goal

pub returns : goal.returns
returns g c = λ t is. adds_same _ _ _ _ _ (ap (event_lines c.args.rules.now c.args.tokens.now c.args.name.now)
    (ap (events_from []) (c.items.ensures ∙ is) ∙ events_from_tree t)) c.push_events.ensures
