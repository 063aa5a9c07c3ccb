use Rattle.std.proofs.Common.{reverse}
use Rattle.g4_frames.specs.Framed.{Kept}
use Rattle.g4_guards.specs.Levels.{AllowedAt}
use Rattle.g4_full.specs.Remembered.{IsNumber, SetOf}
use Rattle.g4_full.proofs.FullLooking.{IsPlaced}
use Rattle.g4_full.proofs.frames.Frames.look.Given as goal

abbrev pub invariant-loop-k : goal.invariant-loop-k
invariant-loop-k g l =
    IsPlaced g.B.Home.plan.net.net l.decision (AllowedAt g.B.Home.plan.net.net l.decision l.condition) (reverse l.returns)
    l.tokens l.k (Kept g.B.Home.plan.net.net (SetOf l.self l.spot.set)) l.spot.below.now
    × IsNumber l.self l.spot.set
