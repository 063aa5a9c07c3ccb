use Rattle.std.proofs.Common.{reverse}
use Rattle.g4_configs.specs.Configs.{Holds}
use Rattle.g4_full.proofs.Placing.{taken_down}
use Rattle.g4_full.proofs.lowering.take_down.Goals as goal

pub returns : goal.returns
returns c = taken_down c.args.net.now (Holds c.args.from) (Holds c.in_ok-place.place.set) (Holds c.keep.new.self)
    (reverse c.args.returns.now) c.in_ok-place.place.below.now c.in_ok-place.ensures c.keep.ensures.members
