use Rattle.std.proofs.Common.{◌≡◌, drop, length}
use Rattle.g4_source.specs.Full.{EachIsFull}
use Rattle.g4_states.specs.Trees.{bodies_over}
use Rattle.g4_states.proofs.Runs.{HasSides}
use Rattle.g4_states.proofs.draft.lay_bodies.Given as goal

abbrev pub invariant-loop-alternative : goal.invariant-loop-alternative
invariant-loop-alternative g l = record {
  full : EachIsFull (bodies_over g.A.Atom.step g.B.Body.tree (drop l.alternative-index l.alternatives));
  many : length l.firsts.items ≡ l.alternative-index;
  laid : HasSides l.initial.states.items l.states.items l.firsts.items l.lasts.items
      (bodies_over g.A.Atom.step g.B.Body.tree l.alternatives)
      (bodies_over g.A.Atom.step g.B.Body.tree (drop l.alternative-index l.alternatives));
}
