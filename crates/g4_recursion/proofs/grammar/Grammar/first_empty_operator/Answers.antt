use Rattle.std.proofs.Common.{◌+◌, length, arith, subst}
use Rattle.std.proofs.lemmas.List.{length-map}
use Rattle.g4_source.specs.Views.{rule_view}
use Rattle.g4_recursion.specs.Checking.{HasEmptyOperator, IsEmptyOperator}
use Rattle.g4_recursion.specs.Grammars.{rules_in}
use Rattle.g4_recursion.proofs.Bridge.{operator_place, operator_within}
use Rattle.g4_recursion.proofs.Searching.{all_passed, least_found, least_number, one_passed}
use Rattle.g4_recursion.proofs.grammar.Grammar.first_empty_operator.Goals as goal

pub returns-in-Some-clause-first : goal.returns-in-Some-clause-first
returns-in-Some-clause-first c =
    let rules = rules_in c.args.self.now in
    let k = c.loop-rule.rule in (
      least_found (HasEmptyOperator rules) k c.loop-rule.invariant (c.in-Some.place + 1, c.in-Some.ensures.0),
      least_number (IsEmptyOperator rules k) c.in-Some.place (operator_place rules k) c.in-Some.ensures,
    )

pub loop-rule-preserved : goal.loop-rule-preserved
loop-rule-preserved c =
    let rules = rules_in c.args.self.now in
    let k = c.loop-rule.rule in
    one_passed (HasEmptyOperator rules) k c.loop-rule.invariant
    (λ (i, empty). let (place, is) = operator_place rules k i empty in
    c.in_default.ensures place (subst (IsEmptyOperator rules k) is empty))

pub returns-clause-first : goal.returns-clause-first
returns-clause-first c =
    let items = c.args.self.now.rules.items in
    let rules = rules_in c.args.self.now in
    all_passed (HasEmptyOperator rules) c.loop-rule.rule (length rules) (omega (arith, length-map items rule_view))
    (operator_within rules) c.loop-rule.invariant
