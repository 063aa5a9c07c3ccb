-- The events of items, one item after another.
use Rattle.std.specs.Prelude.{List, [], ◌∷◌}
use Rattle.g4_trees.specs.declared.tree.Item.{Item}
use Rattle.g4_trees.specs.declared.tree.Item.TheVariants as items
use Rattle.g4_trees.specs.declared.events.Event.{Event}
use Rattle.g4_trees.specs.declared.events.Event.TheVariants as events

-- the events of items, where these are the events at which the open nodes end, the innermost first
abbrev pub events_from : List Event → List Item → List Event
events_from ends [] = []
events_from ends (items.Enter rule alt at ∷ more) = events.Enter rule alt ∷ events_from (events.Exit rule alt ∷ ends) more
events_from ends (items.Token at ∷ more) = events.Token at ∷ events_from ends more
events_from [] (items.Exit ∷ more) = events_from [] more
events_from (event ∷ ends) (items.Exit ∷ more) = event ∷ events_from ends more
