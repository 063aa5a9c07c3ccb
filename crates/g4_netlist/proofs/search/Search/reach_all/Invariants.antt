use Rattle.std.proofs.Common.{◌≡◌, ℕ, drop}
use Rattle.g4_net.specs.Network.{ParserNetwork}
use Rattle.g4_netlist.specs.Searching.{IsUnderWay, work_left}
use Rattle.g4_netlist.proofs.search.Search.reach_all.Given as goal

abbrev pub invariant-loop-state : goal.invariant-loop-state
invariant-loop-state l = record {
  under_way : (net : ParserNetwork) (rule : ℕ) → IsUnderWay net rule l.states l.initial.self
      → IsUnderWay net rule (drop l.state-index l.states) l.self;
  work : work_left l.self ≡ work_left l.initial.self;
}
