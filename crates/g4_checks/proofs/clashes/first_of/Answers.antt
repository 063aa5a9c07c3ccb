use Rattle.std.proofs.Common.{ℕ, List, Option, option_map, subst}
use Rattle.std.specs.Borrow.{Bor}
use Rattle.g4_source.specs.declared.atom.Atom.{Atom}
use Rattle.g4_source.specs.declared.rule.ParserRule.{ParserRule}
use Rattle.g4_source.specs.First.{Finds}
use Rattle.g4_checks.specs.Labels.{HasClash}
use Rattle.g4_checks.specs.Views.{clashes_in}
use Rattle.g4_source.proofs.Firsts.{one_passed, one_reported, all_passed}
use Rattle.g4_checks.proofs.clashes.first_of.Goals as goal

pub returns-in-Some : goal.returns-in-Some
returns-in-Some c =
    one_reported (HasClash (clashes_in c.args.clashing.now)) (λ (x : Bor (ParserRule Atom)). x.now) c.args.rules.now
    c.loop-rule.rule-index c.rule-item.result c.in-Some.name.now c.loop-rule-test.true c.rule-item.is
    (subst (λ (found : Option (Bor (List ℕ))). Finds (HasClash (clashes_in c.args.clashing.now)) c.rule-item.result.now
    (option_map (λ n. n.now) found)) c.in-Some.is c.in_ok-name.ensures) c.loop-rule.invariant

pub loop-rule-preserved : goal.loop-rule-preserved
loop-rule-preserved c =
    one_passed (HasClash (clashes_in c.args.clashing.now)) (λ (x : Bor (ParserRule Atom)). x.now) c.args.rules.now
    c.loop-rule.rule-index c.rule-item.result c.loop-rule-test.true c.rule-item.is
    (subst (λ (found : Option (Bor (List ℕ))). Finds (HasClash (clashes_in c.args.clashing.now)) c.rule-item.result.now
    (option_map (λ n. n.now) found)) c.in_default.is c.in_ok-name.ensures) c.loop-rule.invariant

pub returns : goal.returns
returns c = all_passed (HasClash (clashes_in c.args.clashing.now)) (λ (x : Bor (ParserRule Atom)). x.now) c.args.rules.now
    c.loop-rule.rule-index c.loop-rule-test.false c.loop-rule.invariant
