use Rattle.std.proofs.Common.{take, Contains}
use Rattle.g4_closure.specs.Marks.{AreMarks}
use Rattle.g4_closure.proofs.marks.marks_of.Given as goal

abbrev pub invariant-loop-number : goal.invariant-loop-number
invariant-loop-number l = AreMarks (Contains (take l.number-index l.numbers)) l.count l.marks.items
