use Rattle.std.proofs.Common.{◌≡◌, take, map, slice_index}
use Rattle.g4_stacks.proofs.shape.numbers_at.Given as goal

abbrev pub invariant-loop-place : goal.invariant-loop-place
invariant-loop-place l = l.found.items ≡ map (slice_index l.numbers) (take l.place-index l.places)
