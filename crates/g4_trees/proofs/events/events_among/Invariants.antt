use Rattle.std.proofs.Common.{◌≡◌, ◌++◌, [], drop, reverse}
use Rattle.g4_trees.specs.Steps.{events_from}
use Rattle.g4_trees.proofs.events.events_among.Given as goal

abbrev pub invariant-loop-item : goal.invariant-loop-item
invariant-loop-item l = l.events.items ++ events_from (reverse l.ends.items) (drop l.item-index l.items) ≡ events_from [] l.items
