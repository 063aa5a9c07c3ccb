use Rattle.std.proofs.Common.{◌≡◌, ◌+◌, map, drop}
use Rattle.g4_source.specs.Elements.{either}
use Rattle.g4_source.specs.Trees.{element_of, alternative_of, in_order}
use Rattle.g4_layout.specs.Size.{states_in_order_by, states_of_bodies_by}
use Rattle.g4_states.proofs.count.+count.Given as goal

abbrev pub invariant-past_run-loop-element : goal.invariant-past_run-loop-element
invariant-past_run-loop-element g l =
    l.left + states_in_order_by g.A.Atomic.states (in_order (map element_of l.elements))
    ≡ l.spare + states_in_order_by g.A.Atomic.states (in_order (map element_of (drop l.element-index l.elements)))

abbrev pub invariant-past_sides-loop-alternative : goal.invariant-past_sides-loop-alternative
invariant-past_sides-loop-alternative g l =
    l.left + states_of_bodies_by g.A.Atomic.states (either (map alternative_of l.alternatives))
    ≡ l.spare + states_of_bodies_by g.A.Atomic.states (either (map alternative_of (drop l.alternative-index l.alternatives)))
