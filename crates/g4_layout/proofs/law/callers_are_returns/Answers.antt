use Rattle.g4_layout.proofs.Callers as callers
use Rattle.g4_layout.proofs.law.callers_are_returns.Goals as goal

pub returns : goal.returns
returns g c = λ net count rule t listed is. callers.callers_are_returns net count rule t listed is
