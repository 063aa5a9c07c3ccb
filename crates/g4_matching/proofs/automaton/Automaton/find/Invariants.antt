use Rattle.g4_matching.proofs.Indexed.{left}
use Rattle.g4_matching.proofs.automaton.Automaton.find.Given as goal

abbrev pub decreases-loop-next : goal.decreases-loop-next
decreases-loop-next l = left l.next
