use Rattle.std.proofs.Common.{◌≡◌, ℕ, [], length}
use Rattle.g4_vocab.specs.Tables.{members_in}
use Rattle.g4_vocab.proofs.by_type.empty_groups.Given as goal

abbrev pub invariant-groups : goal.invariant-groups
invariant-groups l = (length l.groups.items ≡ l.counter) × ((number : ℕ) → members_in l.groups.items number ≡ [])
