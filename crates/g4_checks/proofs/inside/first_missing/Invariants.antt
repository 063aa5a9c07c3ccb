use Rattle.g4_checks.specs.Names.{is_one_of}
use Rattle.g4_checks.specs.Predicates.{IsMissing}
use Rattle.g4_source.proofs.Firsts.{ArePassed}
use Rattle.g4_checks.proofs.inside.first_missing.Given as goal

abbrev pub invariant-loop-rule : goal.invariant-loop-rule
invariant-loop-rule l = ArePassed (IsMissing (is_one_of l.parsers)) (λ n. n) l.rules l.rule-index
