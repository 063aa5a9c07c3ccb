use Rattle.g4_full.specs.Remembered.{IsLive, IsSound}
use Rattle.g4_full.proofs.memory.Memory.look.Given as goal

abbrev pub invariant-loop : goal.invariant-loop
invariant-loop g l = IsSound g.B.Home.plan.net.net l.self-inside.frames × IsLive l.self-inside.frames l.live
