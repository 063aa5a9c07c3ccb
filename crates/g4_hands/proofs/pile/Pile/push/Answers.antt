use Rattle.std.proofs.Common.{ap, ◌∙◌}
use Rattle.g4_hands.proofs.Rules.{pushes}
use Rattle.g4_hands.proofs.pile.Pile.push.Goals as goal

pub push_as-requires-clause-pushes : goal.push_as-requires-clause-pushes
push_as-requires-clause-pushes c = pushes _ _ _ (ap (λ r. r.share.parts) c.self.view_is ∙ c.requires)
