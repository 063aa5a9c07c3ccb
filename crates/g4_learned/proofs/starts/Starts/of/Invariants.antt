use Rattle.std.proofs.Common.{take}
use Rattle.g4_learned.specs.Tables.{AreKeys}
use Rattle.g4_learned.proofs.starts.Starts.of.Given as goal

abbrev pub invariant-loop-number : goal.invariant-loop-number
invariant-loop-number l = AreKeys l.net (take l.number l.state-items) l.first.items l.keys.items
