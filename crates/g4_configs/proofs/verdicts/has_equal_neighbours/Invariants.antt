use Rattle.std.proofs.Common.{◌≡◌, ℕ, ◌+◌, ◌<◌, get_or}
use Rattle.g4_configs.proofs.verdicts.has_equal_neighbours.Given as goal

abbrev pub invariant-loop-i : goal.invariant-loop-i
invariant-loop-i l = (k : ℕ) → k + 1 < l.i → ((d : ℕ × ℕ) → get_or l.pairs k d ≡ get_or l.pairs (k + 1) d) → ⊥
