use Rattle.std.proofs.Common.{[], drop, reverse}
use Rattle.g4_trees.proofs.Appended.{Leaves}
use Rattle.g4_trees.specs.Events.{event_lines}
use Rattle.g4_trees.specs.Steps.{events_from}
use Rattle.g4_trees.proofs.events.push_events.Given as goal

abbrev pub invariant-loop-item : goal.invariant-loop-item
invariant-loop-item g l = Leaves (event_lines l.rules l.tokens l.name (events_from [] l.items))
    (event_lines l.rules l.tokens l.name (events_from (reverse l.ends.items) (drop l.item-index l.items))) l.initial.out.items l.out.items
