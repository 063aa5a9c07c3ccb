use Rattle.std.proofs.Common.{◌<◌, ◌↔◌, ℕ, List, [], length}
use Rattle.g4_net.proofs.Ranks.{rank}
use Rattle.g4_net.specs.Configurations.{above_bottom, config}
use Rattle.g4_run.specs.Running.{Passes, Run, deepest}
use Rattle.g4_parse.specs.Standing.{StandsFor}
use Rattle.g4_parse.proofs.parser.Parser.passes.Given as goal

-- the tests from the first state on are all true where those from this one on are
abbrev pub invariant-tests : goal.invariant-tests
invariant-tests g l = record {
  within : l.state < length l.net.states;
  same : (word : List ℕ) (r : Run) → StandsFor l.self r → Passes l.net (g.P.Predicates.values l.predicates) word r l.first
      ↔ Passes l.net (g.P.Predicates.values l.predicates) word r l.state;
}

abbrev pub decreases-tests : goal.decreases-tests
decreases-tests g l = rank l.net deepest (config l.state 0 (above_bottom []))
