use Rattle.std.proofs.Common.{ℕ, List, take}
use Rattle.g4_net.specs.Configurations.{Stack}
use Rattle.g4_stacks.specs.Hashing.{AreSumsOf, IsSumOf}
use Rattle.g4_stacks.specs.Listing.{above}
use Rattle.g4_stacks.proofs.shape.hash.sum_above.Given as goal

abbrev pub invariant-loop-state : goal.invariant-loop-state
invariant-loop-state l = (rests : ℕ → List Stack) → AreSumsOf l.below rests → IsSumOf l.sum (above rests (take l.state-index l.tops))
