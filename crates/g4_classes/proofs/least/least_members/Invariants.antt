use Rattle.std.proofs.Common.{◌≡◌, ℕ, ◌<◌, length, get_or}
use Rattle.g4_classes.proofs.least.least_members.Given as goal

abbrev pub invariant-loop-block : goal.invariant-loop-block
invariant-loop-block l = record {
  count : length l.members.items ≡ l.block-index;
  each : (i : ℕ) → i < l.block-index
      → get_or l.members.items i 0 ≡ get_or l.least.items (get_or l.blocks i 0) 0;
}
