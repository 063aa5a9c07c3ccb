use Rattle.std.proofs.Common.{take}
use Rattle.g4_configs.proofs.Merges.{IsMerging}
use Rattle.g4_configs.proofs.merging.add_each.Given as goal

abbrev pub invariant-loop-group : goal.invariant-loop-group
invariant-loop-group l = IsMerging l.initial.graph l.initial.nodes.entries (take l.group-index l.groups) l.graph l.nodes.entries
