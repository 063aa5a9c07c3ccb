use Rattle.std.proofs.Common.{refl}
use Rattle.g4_store.proofs.store.Store.learn.Goals as goal

pub returns-clause-learned : goal.returns-clause-learned
returns-clause-learned g c = c.learn.ensures.learned c.args.path.content (c.requires.0, c.requires.1, refl)
