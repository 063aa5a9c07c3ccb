use Rattle.g4_cycles.specs.Edges.{EdgeOf}
use Rattle.g4_cycles.proofs.law.one_first_cycle.Goals as goal
use Rattle.g4_cycles.proofs.OneCycle as one

pub returns : goal.returns
returns c = λ graph. one.one_first_cycle (EdgeOf graph)
