use Rattle.std.proofs.Common.{◌<◌, All, length, reverse}
use Rattle.g4_frames.specs.Framed.{Meant}
use Rattle.g4_frames.specs.Running.{AreSame}
use Rattle.g4_full.specs.Remembered.{IsNumber, SetOf}
use Rattle.g4_full.proofs.frames.Frames.go_down.Given as goal

abbrev pub invariant-loop-newest : goal.invariant-loop-newest
invariant-loop-newest g l =
    AreSame (Meant g.B.Home.plan.net.net (SetOf l.self l.from) (reverse l.returns)) (Meant g.B.Home.plan.net.net (SetOf l.self l.set)
    (reverse l.below))
    × IsNumber l.self l.set
    × All (λ t. t < length g.B.Home.plan.net.net.states) l.below

abbrev pub decreases-loop-newest : goal.decreases-loop-newest
decreases-loop-newest g l = length l.below
