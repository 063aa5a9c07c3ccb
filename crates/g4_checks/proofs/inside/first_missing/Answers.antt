use Rattle.std.proofs.Common.{ℕ, List, sym, ap, subst, ◌∙◌}
use Rattle.std.proofs.lemmas.Bool.{both_ways}
use Rattle.std.proofs.lemmas.List.{map-id}
use Rattle.g4_source.specs.First.{IsFirst, IsNone}
use Rattle.g4_source.proofs.Firsts.{one_passed, one_reported, all_passed}
use Rattle.g4_checks.specs.Names.{is_one_of}
use Rattle.g4_checks.specs.Predicates.{IsMissing}
use Rattle.g4_checks.proofs.inside.first_missing.Goals as goal

pub returns-then-not-has : goal.returns-then-not-has
returns-then-not-has c =
    let has = is_one_of c.args.parsers.now in
    let name = c.as_str-then-not-has.result.now in
    subst (λ (names : List (List ℕ)). IsFirst (IsMissing has) names name) (map-id c.args.rules.now)
    (one_reported (IsMissing has) (λ n. n) c.args.rules.now c.loop-rule.rule-index c.rule-item.result name c.loop-rule-test.true
    c.rule-item.is
    (c.as_str-then-not-has.ensures, ap has (sym c.as_str.ensures) ∙ (sym c.has.ensures ∙ c.if-not-has.true)) c.loop-rule.invariant)

pub loop-rule-preserved : goal.loop-rule-preserved
loop-rule-preserved c =
    let has = is_one_of c.args.parsers.now in
    one_passed (IsMissing has) (λ n. n) c.args.rules.now c.loop-rule.rule-index c.rule-item.result c.loop-rule-test.true c.rule-item.is
    (λ n told. both_ways (has c.rule-item.result) told.1 (ap has (sym c.as_str.ensures) ∙ (sym c.has.ensures ∙ c.if-not-has.false)))
    c.loop-rule.invariant

pub returns : goal.returns
returns c =
    let has = is_one_of c.args.parsers.now in
    subst (IsNone (IsMissing has)) (map-id c.args.rules.now)
    (all_passed (IsMissing has) (λ n. n) c.args.rules.now c.loop-rule.rule-index c.loop-rule-test.false c.loop-rule.invariant)
