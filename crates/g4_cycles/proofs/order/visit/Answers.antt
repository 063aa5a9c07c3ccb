use Rattle.std.proofs.Common.{arith}
use Rattle.g4_cycles.proofs.Visiting.{visited_once}
use Rattle.g4_cycles.proofs.order.visit.Goals as goal

pub places-smaller : goal.places-smaller
places-smaller c = let once = visited_once c.places.visited _ c.in-Some-next_new.ensures.1 in
    omega (arith, once, c.in-Some.ensures.cases, c.in_ok-push-in-Some-next_new.ensures.len, c.in_ok-push-in-Some-next_new-2.ensures.len)
