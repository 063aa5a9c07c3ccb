use Rattle.std.proofs.Common.{◌≡◌, map, take}
use Rattle.g4_configs.specs.Lowering.{imaged}
use Rattle.g4_configs.proofs.lowering.image_groups.Given as goal

abbrev pub invariant-loop-group : goal.invariant-loop-group
invariant-loop-group l = l.found.items ≡ map (imaged l.images) (take l.group-index l.groups)
