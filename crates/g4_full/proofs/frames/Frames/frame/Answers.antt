use Rattle.std.proofs.Common.{refl}
use Rattle.g4_full.proofs.Noting.{got}
use Rattle.g4_full.proofs.frames.Frames.frame.Goals as goal

pub returns : goal.returns
returns c = got c.args.self.now.sets.items c.args.self.now.sets.items c.args.number c.index.result.now refl c.requires c.index.ensures
