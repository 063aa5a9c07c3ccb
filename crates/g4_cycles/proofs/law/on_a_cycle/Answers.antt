use Rattle.g4_cycles.specs.Edges.{EdgeOf}
use Rattle.g4_cycles.proofs.law.on_a_cycle.Goals as goal
use Rattle.g4_cycles.proofs.Reaching as reaching

pub returns : goal.returns
returns c = λ graph. reaching.on_a_cycle (EdgeOf graph)
