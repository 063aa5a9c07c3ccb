use Rattle.std.proofs.Common.{true≢false, sym, ◌∙◌}
use borrow.Author.Count.{below_more}
use Rattle.g4_configs.proofs.verdicts.has_lone.Goals as goal

pub loop-index-preserved : goal.loop-index-preserved
loop-index-preserved c = below_more _ _ c.loop-index.invariant (λ lone. true≢false (sym (c.is_lone.ensures.1 lone) ∙ c.if-is_lone.false))
