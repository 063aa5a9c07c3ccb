use Rattle.g4_checks.specs.Labels.{IsClash}
use Rattle.g4_checks.specs.Views.{clashes_in}
use Rattle.g4_source.proofs.Firsts.{ArePassed}
use Rattle.g4_checks.proofs.clashes.first_clash.Given as goal

abbrev pub invariant-loop-label : goal.invariant-loop-label
invariant-loop-label l = ArePassed (IsClash (clashes_in l.clashing)) (λ x. x.now) l.labels l.label-index
