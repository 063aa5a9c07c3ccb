use Rattle.std.proofs.Common.{[]}
use Rattle.g4_netlist.specs.Searching.{IsUnderWay, work_left}
use Rattle.g4_netlist.proofs.search.states_of.Given as goal

abbrev pub invariant-loop-state : goal.invariant-loop-state
invariant-loop-state l = IsUnderWay l.net l.rule [] l.search

abbrev pub decreases-loop-state : goal.decreases-loop-state
decreases-loop-state l = work_left l.search
