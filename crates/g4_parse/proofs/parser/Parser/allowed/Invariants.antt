use Rattle.std.proofs.Common.{◌↔◌, ℕ, List, Contains}
use Rattle.g4_run.specs.Running.{Run}
use Rattle.g4_parse.specs.Standing.{StandsFor}
use Rattle.g4_parse.specs.Tested.{PassesAmong}
use Rattle.g4_parse.proofs.parser.Parser.allowed.Given as goal

abbrev pub invariant-loop-before : goal.invariant-loop-before
invariant-loop-before g l = (word : List ℕ) (r : Run) → StandsFor l.self r → (i : ℕ) → Contains l.found.items i
    ↔ PassesAmong l.net (g.P.Predicates.values l.predicates) word r l.targets l.before i
