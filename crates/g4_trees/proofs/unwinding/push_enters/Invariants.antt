use Rattle.std.proofs.Common.{◌≡◌, ◌++◌, reverse, drop}
use Rattle.g4_trees.specs.Unwinding.{enters}
use Rattle.g4_trees.proofs.unwinding.push_enters.Given as goal

-- the beginnings from the place on are written
abbrev pub invariant-loop-k : goal.invariant-loop-k
invariant-loop-k l = l.out.items ≡ l.fn.out.items ++ reverse (enters l.rule l.at (drop l.k l.alternatives))
