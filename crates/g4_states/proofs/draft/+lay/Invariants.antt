use Rattle.std.proofs.Common.{◌≡◌, ◌+◌, drop, length}
use Rattle.g4_source.specs.Full.{AreFull, EachIsFull}
use Rattle.g4_states.specs.Trees.{tree_of, run_of, sides_of}
use Rattle.g4_states.proofs.Weights.{weight, weight_of_run, weight_of_sides}
use Rattle.g4_states.proofs.Runs.{HasLaid, HasSides}
use Rattle.g4_states.proofs.draft.+lay.Given as goal

abbrev pub invariant-lay_run-loop-element : goal.invariant-lay_run-loop-element
invariant-lay_run-loop-element g l = record {
  full : AreFull (run_of g.A.Atom.step (drop l.element-index l.elements));
  laid : HasLaid l.initial.states.items l.states.items l.from l.last (run_of g.A.Atom.step l.elements)
      (run_of g.A.Atom.step (drop l.element-index l.elements));
}

abbrev pub invariant-lay_sides-loop-alternative : goal.invariant-lay_sides-loop-alternative
invariant-lay_sides-loop-alternative g l = record {
  full : EachIsFull (sides_of g.A.Atom.step (drop l.alternative-index l.alternatives));
  many : length l.firsts.items ≡ l.alternative-index;
  laid : HasSides l.initial.states.items l.states.items l.firsts.items l.lasts.items (sides_of g.A.Atom.step l.alternatives)
      (sides_of g.A.Atom.step (drop l.alternative-index l.alternatives));
}

abbrev pub decreases-lay_element : goal.decreases-lay_element
decreases-lay_element g l = weight (tree_of g.A.Atom.step l.element.now)

abbrev pub decreases-lay_block : goal.decreases-lay_block
decreases-lay_block g l = weight_of_sides (sides_of g.A.Atom.step l.alternatives.now) + 4

abbrev pub decreases-lay_once : goal.decreases-lay_once
decreases-lay_once g l = weight_of_sides (sides_of g.A.Atom.step l.alternatives.now) + 3

abbrev pub decreases-lay_apart : goal.decreases-lay_apart
decreases-lay_apart g l = weight_of_sides (sides_of g.A.Atom.step l.alternatives.now) + 2

abbrev pub decreases-lay_sides : goal.decreases-lay_sides
decreases-lay_sides g l = weight_of_sides (sides_of g.A.Atom.step l.alternatives.now) + 1

abbrev pub decreases-lay_run : goal.decreases-lay_run
decreases-lay_run g l = weight_of_run (run_of g.A.Atom.step l.elements.now)
