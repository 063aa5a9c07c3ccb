use Rattle.std.proofs.Common.{arith}
use Rattle.g4_matching.proofs.Alternate.{alternate_more, alternate_none, next_more}
use Rattle.g4_matching.proofs.partition.alternate.Goals as goal

pub loop-init : goal.loop-init
loop-init c = let h = alternate_none c.new-classes.result.items c.new-classes.ensures.items in
    record { alternate = h.0; small = omega arith; next = h.1 }

pub loop-preserved : goal.loop-preserved
loop-preserved c =
    let i = c.loop.invariant in record {
      alternate = alternate_more c.loop.counter c.loop.classes.items c.loop.class i.alternate i.small i.next c.push.new.self.items
          c.in_ok-push.ensures.items;
      small = omega arith;
      next = next_more c.loop.counter c.loop.classes.items c.loop.class i.alternate i.small i.next c.push.new.self.items
          c.in_ok-push.ensures.items;
    }
