use Rattle.g4_hands.proofs.Rules.{begins}
use Rattle.g4_hands.proofs.pile.Pile.new.Goals as goal

pub fifo_as-requires : goal.fifo_as-requires
fifo_as-requires c = begins
