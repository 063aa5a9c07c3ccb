use Rattle.std.proofs.Common.{◌≡◌, ◌++◌, map, reverse}
use Rattle.g4_matching.specs.Entries.{placed}
use Rattle.g4_matching.proofs.waiting.push_each.Given as goal

abbrev pub invariant-loop-state : goal.invariant-loop-state
invariant-loop-state l = reverse l.entries.items ≡ map (placed l.from) (reverse (map (λ y. y.now) l.yielded)) ++ reverse l.fn.entries.items
