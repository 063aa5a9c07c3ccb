use Rattle.std.proofs.Common.{◌≡◌, map, take}
use Rattle.g4_configs.specs.Groups.{group_of}
use Rattle.g4_configs.proofs.ordered.groups_in.Given as goal

abbrev pub invariant-loop-entry : goal.invariant-loop-entry
invariant-loop-entry l = l.groups.items ≡ map group_of (take l.entry-index l.entries)
