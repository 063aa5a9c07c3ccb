use Rattle.std.proofs.Common.{ap, ◌∙◌}
use Rattle.g4_decide.specs.Asked.{Told}
use Rattle.g4_store.specs.Numbers.{has}
use Rattle.g4_store.specs.Views.{copied, leading}
use Rattle.g4_pool.proofs.worker_state.copy_pass.Goals as goal

pub copy_pass-requires : goal.copy_pass-requires
copy_pass-requires g c = ap (λ (t : Told). has 0 t.0.holds) c.requires.1

pub returns-clause-copy : goal.returns-clause-copy
returns-clause-copy g c n is = c.copy_pass.ensures.copy ∙ ap (λ (t : Told). let r : Told = (copied t.0, t.1) in r) is

pub returns-clause-leads : goal.returns-clause-leads
returns-clause-leads g c n is = c.copy_pass.ensures.same ∙ ap (λ (t : Told). let r : Told = (leading t.0, t.1) in r) is
