use Rattle.std.proofs.Common.{◌≡◌, take}
use Rattle.g4_configs.specs.Rows.{groups_of}
use Rattle.g4_configs.proofs.snapshot.loading.grouped.Given as goal

abbrev pub invariant-loop-k : goal.invariant-loop-k
invariant-loop-k l = l.groups.items ≡ groups_of (take l.k l.keys) l.stacks
