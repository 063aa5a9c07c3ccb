use Rattle.std.proofs.Common.{◌≡◌, take}
use Rattle.g4_configs.specs.Lowering.{with_stacks}
use Rattle.g4_configs.proofs.lowering.with_nodes.Given as goal

abbrev pub invariant-loop-k : goal.invariant-loop-k
invariant-loop-k l = l.found.items ≡ with_stacks (take l.k l.groups) l.nodes
