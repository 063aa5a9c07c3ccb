use Rattle.std.proofs.Common.{◌≡◌, ℕ, take}
use Rattle.std.specs.BTreeSet.{contains}
use Rattle.std.specs.Ordering.{nat_cmp}
use Rattle.g4_vocab.specs.Types.{is_type}
use Rattle.g4_vocab.proofs.kinds.numbers_of.Given as goal

abbrev pub invariant-loop-entry : goal.invariant-loop-entry
invariant-loop-entry l = (n : ℕ) → contains nat_cmp l.numbers n ≡ is_type (take l.entry-index l.entries) n
