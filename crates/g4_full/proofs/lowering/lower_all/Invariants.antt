use Rattle.std.proofs.Common.{◌≡◌, ◌<◌, ◌≤◌, length}
use Rattle.g4_full.proofs.lowering.lower_all.Given as goal

abbrev pub invariant-tries : goal.invariant-tries
invariant-tries l = (0 < l.left) × (l.left ≤ length l.returns) × (l.all ≡ length l.returns)

abbrev pub decreases-tries : goal.decreases-tries
decreases-tries l = l.left
