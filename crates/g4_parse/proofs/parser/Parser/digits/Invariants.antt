use Rattle.std.proofs.Common.{◌<◌, ◌^◌, ℕ, List, drop}
use Rattle.g4_guards.specs.Tests.{tests_among}
use Rattle.g4_run.specs.Running.{Passes, Run}
use Rattle.g4_parse.specs.Standing.{StandsFor}
use Rattle.g4_parse.proofs.Passing.{AreDigits}
use Rattle.g4_parse.proofs.parser.Parser.digits.Given as goal

-- the number has the digits of the first states from the place on
abbrev pub invariant-loop-place : goal.invariant-loop-place
invariant-loop-place g l = record {
  small : l.number < 2 ^ tests_among l.net (drop l.place l.targets);
  digits : (word : List ℕ) (r : Run) → StandsFor l.self r
      → AreDigits l.net (Passes l.net (g.P.Predicates.values l.predicates) word r) (drop l.place l.targets) l.number;
}
