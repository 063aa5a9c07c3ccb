use Rattle.std.proofs.Common.{length, arith}
use Rattle.std.proofs.lemmas.List.{length-map}
use Rattle.g4_source.specs.Views.{rule_view}
use Rattle.g4_recursion.specs.Checking.{HasEmptyLoop}
use Rattle.g4_recursion.specs.Grammars.{rules_in}
use Rattle.g4_recursion.proofs.Bridge.{loop_within}
use Rattle.g4_recursion.proofs.Searching.{all_passed, least_found, one_passed}
use Rattle.g4_recursion.proofs.grammar.Grammar.first_empty_loop.Goals as goal

pub returns-then-has_empty_loop-clause-first : goal.returns-then-has_empty_loop-clause-first
returns-then-has_empty_loop-clause-first c =
    least_found (HasEmptyLoop (rules_in c.args.self.now)) c.loop-rule.rule c.loop-rule.invariant
    (c.has_empty_loop.ensures.0 c.if-has_empty_loop.true)

pub loop-rule-preserved : goal.loop-rule-preserved
loop-rule-preserved c = one_passed (HasEmptyLoop (rules_in c.args.self.now)) c.loop-rule.rule c.loop-rule.invariant
    (λ h. let yes = c.has_empty_loop.ensures.1 h in cc)

pub returns-clause-first : goal.returns-clause-first
returns-clause-first c =
    let items = c.args.self.now.rules.items in
    all_passed (HasEmptyLoop (rules_in c.args.self.now)) c.loop-rule.rule (length (rules_in c.args.self.now))
    (omega (arith, length-map items rule_view)) (loop_within (rules_in c.args.self.now)) c.loop-rule.invariant
