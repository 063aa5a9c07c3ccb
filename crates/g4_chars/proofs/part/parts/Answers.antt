use Rattle.std.proofs.Common.{arith, ◌∙◌}
use Rattle.g4_chars.proofs.Reading.{parts_more}
use Rattle.g4_chars.proofs.part.parts.Goals as goal

pub loop-at-preserved : goal.loop-at-preserved
loop-at-preserved c = (
  parts_more c.args.items.now c.loop-at.at c.part_at-part.result.1 c.loop-at.out.items c.push.new.self.items c.part_at-part.result.0 _
      c.loop-at-test.true c.part_at-part.ensures.part c.part_at-part.ensures.more c.in_ok-push.ensures.items ∙ c.loop-at.invariant.0,
  omega arith,
)
