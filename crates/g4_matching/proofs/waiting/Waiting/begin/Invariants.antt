use Rattle.std.proofs.Common.{◌≡◌, ◌++◌, [], map, reverse}
use Rattle.g4_matching.proofs.Backwards.{entry_of}
use Rattle.g4_matching.proofs.waiting.Waiting.begin.Given as goal

abbrev pub invariant-loop-start : goal.invariant-loop-start
invariant-loop-start l = (l.self.returns ≡ l.fn.self.returns)
    × (reverse l.self.entries.items ≡ map entry_of (reverse (map (λ y. y.now) l.yielded)) ++ [])
