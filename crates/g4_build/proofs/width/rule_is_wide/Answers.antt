use Rattle.g4_build.proofs.Widths.{wide_rule, told_first, told_second}
use Rattle.g4_build.proofs.width.rule_is_wide.Goals as goal

pub returns-then-is_too_many : goal.returns-then-is_too_many
returns-then-is_too_many g c = told_first _ _ _ _ (wide_rule c.args.rule.now c.as_slice-bodies.result.now c.as_slice-bodies.ensures)
    c.is_too_many.ensures c.if-is_too_many.true

pub returns-else-is_too_many : goal.returns-else-is_too_many
returns-else-is_too_many g c =
    told_second _ _ _ _ _ (wide_rule c.args.rule.now c.as_slice-bodies.result.now c.as_slice-bodies.ensures) c.is_too_many.ensures
    c.if-is_too_many.false c.some_body_is_wide.ensures
