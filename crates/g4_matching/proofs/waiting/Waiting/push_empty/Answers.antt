use Rattle.std.proofs.Common.{◌∷◌, [], refl}
use Rattle.g4_matching.proofs.Known.{adds_placed}
use Rattle.g4_matching.proofs.waiting.Waiting.push_empty.Goals as goal

pub returns : goal.returns
returns c = adds_placed _ _ c.args.from (c.args.target ∷ []) _ refl c.in_ok-push_each.ensures c.requires.known c.requires.waiting refl
