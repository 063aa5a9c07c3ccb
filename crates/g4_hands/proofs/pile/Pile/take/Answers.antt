use Rattle.std.proofs.Common.{◌<◌, sym, subst}
use Rattle.g4_hands.proofs.Rules.{finds, takes}
use Rattle.g4_hands.specs.Reaches.{Reach}
use Rattle.g4_hands.proofs.pile.Pile.take.Goals as goal

pub pop_as-requires-clause-fifo : goal.pop_as-requires-clause-fifo
pop_as-requires-clause-fifo c = λ _. takes _ _ (subst (λ (r : Reach). 0 < r.share.parts) (sym c.self.view_is) c.requires)

pub pop_as-requires-clause-empty : goal.pop_as-requires-clause-empty
pop_as-requires-clause-empty c = finds _ _
