use Rattle.std.proofs.Common.{◌≡◌, ◌==◌, ◌||◌, ℕ, take}
use Rattle.std.specs.BTreeSet.{contains}
use Rattle.std.specs.List.{list_any}
use Rattle.std.specs.Ordering.{nat_cmp}
use Rattle.g4_vocab.proofs.kinds.types_without.Given as goal

abbrev pub invariant-loop-gap : goal.invariant-loop-gap
invariant-loop-gap l = (n : ℕ) → contains nat_cmp l.left_out n
    ≡ (contains nat_cmp l.fn.symbols n || list_any (λ m. m == n) (take l.gap-index l.gaps))
