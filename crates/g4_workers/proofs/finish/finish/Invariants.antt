use Rattle.std.proofs.Common.{ℕ}
use Rattle.g4_workers.specs.Placing.{AreInPlace, AreSlots, HasJoined, IsPlaced}
use Rattle.g4_workers.proofs.Joined.{IsPast}
use Rattle.g4_workers.proofs.finish.finish.Given as goal

abbrev pub invariant-loop-file : goal.invariant-loop-file
invariant-loop-file g l =
    AreSlots (g.W.Work.files l.work) (g.W.Work.is_outcome l.work) l.slots
    × AreInPlace l.file (g.W.Work.is_outcome l.work) l.outcomes.items
    × ((jobs : ℕ) → HasJoined (g.W.Work.has_done l.work) jobs (g.W.Work.files l.work) (λ n. ⊥) (IsPlaced l.initial.slots) l.initial.state
    → HasJoined (g.W.Work.has_done l.work) jobs (g.W.Work.files l.work) (λ n. ⊥) (IsPast l.file l.slots) l.state)
