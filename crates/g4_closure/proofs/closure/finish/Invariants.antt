use Rattle.std.proofs.Common.{◌+◌, length}
use Rattle.g4_configs.specs.Configs.{Holds}
use Rattle.g4_configs.specs.Groups.{InSome}
use Rattle.g4_closure.specs.Missing.{lacks}
use Rattle.g4_closure.specs.Steps.{ReachedFrom}
use Rattle.g4_closure.proofs.Bounding.{universe_of}
use Rattle.g4_closure.proofs.Closing.{IsClosing}
use Rattle.g4_closure.proofs.closure.finish.Given as goal

abbrev pub invariant-loop-alloc : goal.invariant-loop-alloc
invariant-loop-alloc l = IsClosing l.net (ReachedFrom l.net (InSome l.fn.set.graph l.starts)) (Holds l.fn.set) l.fn.set.graph l.set
    l.work.items

abbrev pub decreases-loop-alloc : goal.decreases-loop-alloc
decreases-loop-alloc l = lacks l.set (universe_of (length l.net.states) l.starts) + length l.work.items
