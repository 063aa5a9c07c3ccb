use Rattle.std.proofs.Common.{reverse}
use Rattle.g4_net.specs.Allowed.{Allows}
use Rattle.g4_configs.specs.Configs.{Holds}
use Rattle.g4_full.proofs.FullLooking.{IsPlaced}
use Rattle.g4_full.proofs.full.look_over.Given as goal

abbrev pub invariant-loop-k : goal.invariant-loop-k
invariant-loop-k l = IsPlaced l.net l.decision (Allows l.allowed) (reverse l.returns) l.tokens l.k (Holds l.place.set)
    l.place.below.now
