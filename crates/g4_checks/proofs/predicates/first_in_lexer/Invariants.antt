use Rattle.g4_checks.specs.Uses.{IsLexerPredicate}
use Rattle.g4_checks.specs.Views.{use_view}
use Rattle.g4_source.proofs.Firsts.{ArePassed}
use Rattle.g4_checks.proofs.predicates.first_in_lexer.Given as goal

abbrev pub invariant-loop-atom : goal.invariant-loop-atom
invariant-loop-atom l = ArePassed IsLexerPredicate use_view l.atoms l.atom-index
