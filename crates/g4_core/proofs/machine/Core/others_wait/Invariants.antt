use Rattle.std.proofs.Common.{◌≢◌, ℕ, ◌<◌, true}
use Rattle.g4_core.specs.declared.event.Phase.TheVariants.{Learning}
use Rattle.g4_core.specs.Steps.{Stands}
use Rattle.g4_core.proofs.machine.Core.others_wait.Given as goal

abbrev pub invariant-loop-other : goal.invariant-loop-other
invariant-loop-other g l =
    (k file question : ℕ) → k < l.other → k ≢ l.worker → Stands l.self k (Learning file question true) → ⊥
