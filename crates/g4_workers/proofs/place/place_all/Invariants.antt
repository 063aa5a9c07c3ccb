use Rattle.std.proofs.Common.{◌≡◌, true, All, vec_len}
use Rattle.g4_workers.specs.Placing.{AreSlots, IsReady}
use Rattle.g4_workers.proofs.Joined.{IsJoining}
use Rattle.g4_workers.proofs.place.place_all.Given as goal

abbrev pub invariant-loop-worker : goal.invariant-loop-worker
invariant-loop-worker g l =
    AreSlots (g.W.Work.files l.work) (g.W.Work.is_outcome l.work) l.slots
    × All (IsReady (g.W.Work.has_done l.work) (g.W.Work.files l.work) (g.W.Work.is_outcome l.work)) l.workers.items
    × (l.complete ≡ true
    → IsJoining (g.W.Work.has_done l.work) (g.W.Work.files l.work) l.initial.workers.items l.workers.items l.slots l.state)

abbrev pub decreases-loop-worker : goal.decreases-loop-worker
decreases-loop-worker g l = vec_len l.workers
