use Rattle.std.proofs.Common.{map, ap, ◌∙◌}
use Rattle.g4_source.specs.Views.{rule_view}
use Rattle.g4_checks.specs.Holders.{HoldsPlace}
use Rattle.g4_checks.proofs.OneHolder.{all_viewed, one_passed}
use Rattle.g4_checks.proofs.holders.holder_of.Goals as goal

pub loop-number-preserved : goal.loop-number-preserved
loop-number-preserved c =
    let views = c.deref-rule-items.result.now in
    let not_here : HoldsPlace c.args.fault.now (rule_view c.rule-item.result) → ⊥ =
    λ holds. let yes = c.in_ok-holds_place.ensures.1 holds in let no_way : ⊥ = cc in no_way in
    one_passed c.args.fault.now c.args.source.now.rules views
    (ap (map rule_view) c.deref-rule-items.ensures.value ∙ (c.in_ok-rules.ensures ∙ c.as_slice.ensures)) c.loop-number.number
    c.rule-item.result c.loop-number-test.true c.rule-item.is not_here c.loop-number.invariant

pub returns : goal.returns
returns c =
    all_viewed c.args.fault.now c.args.source.now.rules c.deref-rule-items.result.now c.loop-number.number
    (ap (map rule_view) c.deref-rule-items.ensures.value ∙ (c.in_ok-rules.ensures ∙ c.as_slice.ensures)) c.loop-number-test.false
    c.loop-number.invariant
