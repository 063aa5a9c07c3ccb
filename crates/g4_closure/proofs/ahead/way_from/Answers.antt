use Rattle.std.proofs.Common.{sym}
use Rattle.g4_closure.proofs.Ways.{on_way_here, on_way_next, on_way_into, way_kept, way_ended}
use Rattle.g4_closure.proofs.ahead.way_from.Goals.{in-To, in-Into}
use Rattle.g4_closure.proofs.ahead.way_from.Goals as goal

pub loop-init : goal.loop-init
loop-init c = on_way_here c.args.net.now c.args.state

pub returns-in-Kept : goal.returns-in-Kept
returns-in-Kept c = way_kept c.args.net.now c.args.state c.loop.at c.loop.inside (sym c.in-Kept.ensures) c.loop.invariant

pub returns-in-Ends : goal.returns-in-Ends
returns-in-Ends c = way_ended c.args.net.now c.args.state c.loop.at c.in-Ends.rule c.loop.inside c.if-not-inside.true
    (sym c.in-Ends.ensures) c.loop.invariant

pub loop-preserved : goal.loop-preserved
loop-preserved c = elim c.match-onward_from.branch [
  | in-To w ↦ rw (w.at-is, w.inside-is) (on_way_next c.args.net.now c.args.state c.loop.at w.in-To.next c.loop.inside
      (sym w.in-To.ensures) c.loop.invariant)
  | in-Into w ↦ rw (w.at-is, w.inside-is) (on_way_into c.args.net.now c.args.state c.loop.at w.in-Into.rule c.loop.inside
      (sym w.in-Into.ensures) c.loop.invariant)
]
