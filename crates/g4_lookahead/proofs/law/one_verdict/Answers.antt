use Rattle.g4_net.specs.Allowed.{Allows}
use Rattle.g4_lookahead.proofs.OneChoice.{one_sll}
use Rattle.g4_lookahead.proofs.law.one_verdict.Goals as goal

pub returns : goal.returns
returns c = λ net d allowed word v w p q h g. one_sll net d (Allows allowed) word v w p q h g
