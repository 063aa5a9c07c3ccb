use Rattle.std.proofs.Common.{◌≡◌, ◌++◌, map}
use Rattle.g4_configs.specs.Groups.{group_of}
use Rattle.g4_configs.proofs.merging.listed.Given as goal

abbrev pub invariant-loop-key : goal.invariant-loop-key
invariant-loop-key l = l.found.items ++ map group_of l.key-iterator ≡ map group_of l.nodes.entries
