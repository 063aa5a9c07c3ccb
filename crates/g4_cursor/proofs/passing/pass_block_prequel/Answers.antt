use Rattle.std.proofs.Common.{sym, ◌∙◌}
use Rattle.g4_cursor.proofs.Moving.{passed, after, left_out, there}
use Rattle.g4_cursor.proofs.passing.pass_block_prequel.Goals as goal

pub returns-then-not-is_at_block_prequel : goal.returns-then-not-is_at_block_prequel
returns-then-not-is_at_block_prequel c = left_out _ (sym c.is_at_block_prequel.ensures ∙ c.if-not-is_at_block_prequel.true) tt

pub returns : goal.returns
returns c = there (sym c.is_at_block_prequel.ensures ∙ c.if-not-is_at_block_prequel.false)
    (after c.in_ok-pass_optional_options.ensures (after c.pass_rule_actions.ensures (passed c.take.ensures)))
