use Rattle.std.proofs.Common.{ℕ, ◌<◌}
use Rattle.g4_configs.specs.Verdicts.{IsLone}
use Rattle.g4_configs.proofs.verdicts.has_lone.Given as goal

abbrev pub invariant-loop-index : goal.invariant-loop-index
invariant-loop-index l = (k : ℕ) → k < l.index → IsLone l.groups k → ⊥
