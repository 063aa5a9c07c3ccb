use Rattle.std.proofs.Common.{◌≡◌, ◌≢◌, ℕ, ◌<◌, ◌+◌, length, true, refl, arith, below_more}
use Rattle.g4_core.specs.declared.event.Phase.TheVariants.{Learning}
use Rattle.g4_core.specs.Steps.{Stands}
use Rattle.g4_core.proofs.Lists.{in_range}
use Rattle.g4_core.proofs.machine.Core.others_wait.Goals as goal
use Rattle.g4_core.proofs.machine.Core.others_wait.Goals.{else-other-worker-via-then-other-worker+else-is_learning, else-other-worker-via-else-other-worker}

pub returns-then-is_learning : goal.returns-then-is_learning
returns-then-is_learning g c = (
  λ h. absurd cc,
  λ wait. let busy = c.is_learning.ensures.0 c.if-is_learning.true in
      absurd (wait c.loop-other.other busy.0 busy.1 c.if-other-worker.true busy.2),
)

pub loop-other-preserved : goal.loop-other-preserved
loop-other-preserved g c = λ k file question lt ne stands.
    let here : c.loop-other.other ≢ c.args.worker → Stands c.args.self.now c.loop-other.other (Learning file question true) → ⊥ =
    elim c.else-other-worker.branch [
      | else-other-worker-via-then-other-worker+else-is_learning w ↦
          λ ne st. let yes = w.is_learning.ensures.1 (file, question, st) in let bad : ⊥ = cc in bad
      | else-other-worker-via-else-other-worker w ↦ λ ne st. absurd (ne w.if-other-worker.false)
    ] in
    below_more (λ (n : ℕ). n ≢ c.args.worker → Stands c.args.self.now n (Learning file question true) → ⊥) c.loop-other.other
    (λ n h. c.loop-other.invariant n file question h) here k lt ne stands

pub returns : goal.returns
returns g c = (
  λ h other file question ne stands.
      let lt = in_range c.args.self.now.workers other stands.0 stands.1 in
      c.loop-other.invariant other file question (omega arith) ne stands,
  λ wait. refl,
)
