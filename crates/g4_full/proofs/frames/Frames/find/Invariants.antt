use Rattle.g4_full.proofs.Noting.{left}
use Rattle.g4_full.proofs.frames.Frames.find.Given as goal

abbrev pub decreases-loop-next : goal.decreases-loop-next
decreases-loop-next l = left l.next
