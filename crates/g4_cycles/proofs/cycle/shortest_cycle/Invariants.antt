use Rattle.std.proofs.Common.{◌-◌}
use Rattle.g4_cycles.specs.Edges.{EdgeOf}
use Rattle.g4_cycles.proofs.Shortest.{IsBegun}
use Rattle.g4_cycles.proofs.cycle.shortest_cycle.Given as goal

abbrev pub invariant-loop-step : goal.invariant-loop-step
invariant-loop-step l = IsBegun (EdgeOf l.graph) l.first l.distances l.cycle.items l.node (l.least - l.step) l.least
