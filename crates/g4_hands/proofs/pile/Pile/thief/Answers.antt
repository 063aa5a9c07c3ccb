use Rattle.std.proofs.Common.{◌<◌, sym, subst}
use Rattle.g4_hands.proofs.Rules.{forks}
use Rattle.g4_hands.specs.Reaches.{Reach}
use Rattle.g4_hands.proofs.pile.Pile.thief.Goals as goal

pub another-place-requires : goal.another-place-requires
another-place-requires c = forks _ _ (subst (λ (r : Reach). 1 < r.share.parts) (sym c.self.view_is) c.requires)
