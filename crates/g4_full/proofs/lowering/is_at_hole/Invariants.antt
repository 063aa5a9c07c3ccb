use Rattle.std.proofs.Common.{take}
use Rattle.g4_configs.specs.Groups.{InSome}
use Rattle.g4_frames.specs.Framed.{IsAtHole}
use Rattle.g4_net.specs.Configurations.{Config}
use Rattle.g4_full.proofs.lowering.is_at_hole.Given as goal

abbrev pub invariant-loop-group : goal.invariant-loop-group
invariant-loop-group l = (c : Config) → InSome l.set.graph (take l.group-index l.group-items) c → IsAtHole l.net c → ⊥
