use Rattle.std.specs.Prelude.{Contains}
use Rattle.g4_layout.proofs.Converse as converse
use Rattle.g4_layout.proofs.Formed as formed
use Rattle.g4_layout.proofs.law.never_comes_back.Goals as goal

pub returns : goal.returns
returns c = λ rules net network in_range. (
  λ h. formed.never_comes_back Contains rules net network in_range h.0 h.1,
  λ never. converse.only_so Contains rules net network 0 (λ p returns on. never p 0 returns on),
)
