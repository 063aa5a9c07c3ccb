use Rattle.std.proofs.Common.{drop}
use Rattle.g4_chars.proofs.Members.{ArePushed}
use Rattle.g4_chars.proofs.part.set_of.Given as goal

abbrev pub invariant-loop-part : goal.invariant-loop-part
invariant-loop-part l = ArePushed l.ranges.items (drop l.part-index l.parts) l.parts
