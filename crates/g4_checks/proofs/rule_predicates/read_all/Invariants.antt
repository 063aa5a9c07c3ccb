use Rattle.g4_checks.specs.Uses.{parser_predicate_text}
use Rattle.g4_checks.specs.Views.{use_view}
use Rattle.g4_checks.proofs.ParserPredicates.{AreReadUpTo}
use Rattle.g4_checks.proofs.rule_predicates.read_all.Given as goal

abbrev pub invariant-loop-atom : goal.invariant-loop-atom
invariant-loop-atom l = AreReadUpTo (λ x. parser_predicate_text (use_view x)) l.atoms l.atom-index l.predicates.items
