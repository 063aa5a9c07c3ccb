use Rattle.std.proofs.Common.{◌<◌, ℕ, min, sym, subst, ap}
use Rattle.g4_hands.specs.declared.share.Share.{Share}
use Rattle.g4_hands.proofs.Rules.{finds_few, takes}
use Rattle.g4_hands.proofs.thief.steal.Goals as goal

pub steal_as-requires-clause-takes : goal.steal_as-requires-clause-takes
steal_as-requires-clause-takes g c = takes _ _ (subst (λ (v : Share). 0 < v.parts) (sym c.loop.invariant.1) c.requires.part)

pub steal_as-requires-clause-empty : goal.steal_as-requires-clause-empty
steal_as-requires-clause-empty g c = finds_few _ _ _ (ap (λ (n : ℕ). min n 1) c.requires.end.0)
