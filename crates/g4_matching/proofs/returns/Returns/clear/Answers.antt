use Rattle.std.proofs.Common.{ap}
use Rattle.g4_matching.specs.Returns.{lists_of}
use Rattle.g4_matching.proofs.returns.Returns.clear.Goals as goal

pub returns : goal.returns
unfolding lists_of
returns c = ap lists_of c.clear.ensures.items
