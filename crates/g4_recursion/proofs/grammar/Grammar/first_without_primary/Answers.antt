use Rattle.std.proofs.Common.{length, arith}
use Rattle.std.proofs.lemmas.List.{length-map}
use Rattle.g4_source.specs.Views.{rule_view}
use Rattle.g4_recursion.specs.Checking.{LacksPrimary}
use Rattle.g4_recursion.specs.Grammars.{rules_in}
use Rattle.g4_recursion.proofs.Bridge.{lacking_within}
use Rattle.g4_recursion.proofs.Searching.{all_passed, least_found, one_passed}
use Rattle.g4_recursion.proofs.grammar.Grammar.first_without_primary.Goals as goal

pub returns-then-lacks_primary-clause-first : goal.returns-then-lacks_primary-clause-first
returns-then-lacks_primary-clause-first c = least_found (LacksPrimary (rules_in c.args.self.now)) c.loop-rule.rule
    c.loop-rule.invariant (c.lacks_primary.ensures.0 c.if-lacks_primary.true)

pub loop-rule-preserved : goal.loop-rule-preserved
loop-rule-preserved c = one_passed (LacksPrimary (rules_in c.args.self.now)) c.loop-rule.rule c.loop-rule.invariant
    (λ h. let yes = c.lacks_primary.ensures.1 h in cc)

pub returns-clause-first : goal.returns-clause-first
returns-clause-first c =
    let items = c.args.self.now.rules.items in
    all_passed (LacksPrimary (rules_in c.args.self.now)) c.loop-rule.rule (length (rules_in c.args.self.now))
    (omega (arith, length-map items rule_view)) (lacking_within (rules_in c.args.self.now)) c.loop-rule.invariant
