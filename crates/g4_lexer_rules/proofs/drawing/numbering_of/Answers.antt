use Rattle.std.proofs.Common.{arith}
use Rattle.g4_lexer_rules.proofs.Lists.{range_more}
use Rattle.g4_lexer_rules.proofs.drawing.numbering_of.Goals as goal

pub loop-preserved : goal.loop-preserved
loop-preserved c = record {
  counted = omega (arith, c.loop.invariant.counted);
  made = rw (range_more 1 c.loop.counter c.loop.next (omega (arith, c.loop.invariant.counted)), ← c.loop.invariant.made)
      c.in_ok-push.ensures.items;
}
