use Rattle.std.proofs.Common.{refl}
use Rattle.g4_configs.specs.Configs.{Holds}
use Rattle.g4_full.proofs.Making.{loaded_same}
use Rattle.g4_full.proofs.Noting.{got}
use Rattle.g4_full.proofs.frames.Frames.set_of.Goals as goal

pub returns-in_ok-set-in_default : goal.returns-in_ok-set-in_default
returns-in_ok-set-in_default c =
    let there = got c.args.self.now.sets.items c.args.self.now.sets.items c.args.from c.index.result.now refl c.requires.number
    c.index.ensures in
    loaded_same c.args.self.now c.args.from c.index.result.now there (Holds c.in_ok-set-in_default.set) c.in_ok-set-in_default.ensures
