use Rattle.g4_checks.specs.Labels.{HasClash}
use Rattle.g4_checks.specs.Views.{clashes_in}
use Rattle.g4_source.proofs.Firsts.{ArePassed}
use Rattle.g4_checks.proofs.clashes.first_of.Given as goal

abbrev pub invariant-loop-rule : goal.invariant-loop-rule
invariant-loop-rule l = ArePassed (HasClash (clashes_in l.clashing)) (λ x. x.now) l.rules l.rule-index
