use Rattle.g4_pool.proofs.Done.{both_done}
use Rattle.g4_pool.proofs.file_work.FileWorkWorkWorkerStateFileReport.join.Goals as goal

pub returns : goal.returns
returns g c numbers done others more h k =
    both_done g.B.Home.plan _ _ numbers done others more _ _ _ h k c.meet.ensures.met c.meet.ensures.full
