use Rattle.std.proofs.Common.{◌≡◌, ℕ, ◌++◌, map, take}
use Rattle.g4_learned.proofs.starts.push_starts.Given as goal

abbrev pub invariant-loop-guard : goal.invariant-loop-guard
invariant-loop-guard l = l.keys.items ≡ l.fn.keys.items
    ++ map (λ (n : ℕ). let key : ℕ × ℕ = (l.number, n) in key) (take l.guard-index l.guard-items)
