use Rattle.std.proofs.Common.{◌≡◌, length}
use Rattle.g4_stacks.specs.Hashing.{AreSumsOf}
use Rattle.g4_stacks.specs.Listing.{stacks_of}
use Rattle.g4_stacks.proofs.shape.hash.sums_of_nodes.Given as goal

abbrev pub invariant-loop-held : goal.invariant-loop-held
invariant-loop-held l = (length l.sums.items ≡ l.held-index) × AreSumsOf l.sums.items (stacks_of l.nodes)
