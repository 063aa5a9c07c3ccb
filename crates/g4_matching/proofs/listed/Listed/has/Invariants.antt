use Rattle.g4_matching.proofs.Indexed.{Searching, left}
use Rattle.g4_matching.proofs.listed.Listed.has.Given as goal

abbrev pub invariant-loop-next : goal.invariant-loop-next
invariant-loop-next l = Searching l.self l.entry l.next

abbrev pub decreases-loop-next : goal.decreases-loop-next
decreases-loop-next l = left l.next
