use Rattle.std.proofs.Common.{◌<◌, ℕ, IfSome, subst}
use Rattle.g4_store.proofs.bench.Bench.find.Goals as goal

pub returns-clause-within : goal.returns-clause-within
returns-clause-within g c = subst (λ (n : ℕ). IfSome c.find.result (λ t. t < n)) c.self.invariant.3 c.find.ensures.within
