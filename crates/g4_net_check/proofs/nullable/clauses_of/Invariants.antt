use Rattle.g4_net_check.proofs.Clauses.{ClausesBefore}
use Rattle.g4_net_check.proofs.nullable.clauses_of.Given as goal

abbrev pub invariant-loop-number : goal.invariant-loop-number
invariant-loop-number g l = ClausesBefore l.states l.number l.clauses.items
