use Rattle.std.proofs.Common.{◌≡◌}
use Rattle.g4_workers.specs.Placing.{IsReady}
use Rattle.g4_workers.proofs.worker.work_through.Given as goal

abbrev pub invariant-loop : goal.invariant-loop
invariant-loop g l =
    IsReady (g.W.Work.has_done l.work) (g.W.Work.files l.work) (g.W.Work.is_outcome l.work) l.worker
    × (l.worker.number ≡ l.initial.worker.number)
