use Rattle.g4_checks.specs.Uses.{IsUnknownPredicate}
use Rattle.g4_checks.specs.Views.{use_view}
use Rattle.g4_source.proofs.Firsts.{ArePassed}
use Rattle.g4_checks.proofs.predicates.first_unknown.Given as goal

abbrev pub invariant-loop-atom : goal.invariant-loop-atom
invariant-loop-atom l = ArePassed IsUnknownPredicate use_view l.atoms l.atom-index
