use Rattle.std.proofs.Common.{ℕ, List, map, take}
use Rattle.g4_net.specs.Configurations.{Stack}
use Rattle.g4_stacks.specs.Hashing.{AreSumsOf, EachSum}
use Rattle.g4_stacks.proofs.shape.hash.sums_at.Given as goal

abbrev pub invariant-loop-place : goal.invariant-loop-place
invariant-loop-place l = (lists : ℕ → List Stack) → AreSumsOf l.sums lists
    → EachSum l.found.items (map lists (take l.place-index l.places))
