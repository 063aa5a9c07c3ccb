use Rattle.std.proofs.Common.{◌≡◌, ◌+◌, map, drop}
use Rattle.g4_source.specs.Elements.{either}
use Rattle.g4_layout.specs.Size.{states_of_bodies_by}
use Rattle.g4_states.proofs.count.past_bodies.Given as goal

abbrev pub invariant-loop-alternative : goal.invariant-loop-alternative
invariant-loop-alternative g l =
    l.left + states_of_bodies_by g.A.Atomic.states (either (map g.B.Body.tree l.alternatives))
    ≡ l.spare + states_of_bodies_by g.A.Atomic.states (either (map g.B.Body.tree (drop l.alternative-index l.alternatives)))
