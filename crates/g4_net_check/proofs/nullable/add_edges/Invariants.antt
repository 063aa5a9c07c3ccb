use Rattle.std.proofs.Common.{take}
use Rattle.g4_net_check.specs.Clauses.{AddsClauses}
use Rattle.g4_net_check.proofs.Clauses.{EdgeNeeds}
use Rattle.g4_net_check.proofs.nullable.add_edges.Given as goal

abbrev pub invariant-loop-target : goal.invariant-loop-target
invariant-loop-target l = AddsClauses l.head (EdgeNeeds (take l.target-index l.targets)) l.initial.clauses.items l.clauses.items
