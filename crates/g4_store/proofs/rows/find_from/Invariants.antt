use Rattle.std.proofs.Common.{length}
use Rattle.g4_store.proofs.Bucketing.{IsOnWay}
use Rattle.g4_store.proofs.rows.find_from.Given as goal

abbrev pub invariant-loop-link : goal.invariant-loop-link
invariant-loop-link g l = IsOnWay g.C.Content.code l.rows (length l.newest) l.bucket l.content l.link

abbrev pub decreases-loop-link : goal.decreases-loop-link
decreases-loop-link g l = l.link
