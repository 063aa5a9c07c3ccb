use Rattle.std.proofs.Common.{length, ◌≤◌}
use Rattle.g4_trees.specs.Kept.{AreOrdered}
use Rattle.g4_trees.specs.Unwinding.{HasRead}
use Rattle.g4_trees.proofs.unwinding.put_in_place.Given as goal

abbrev pub invariant-loop-place : goal.invariant-loop-place
invariant-loop-place l = record {
  within : l.rest ≤ length l.wraps;
  read : AreOrdered 0 l.wraps (length l.items)
      → HasRead l.items l.wraps l.place l.rest l.unwound;
}
