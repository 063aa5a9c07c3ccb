use Rattle.std.proofs.Common.{arith}
use Rattle.g4_states.proofs.Counts.{count_next}
use Rattle.g4_states.proofs.count.past_bodies.Goals as goal

pub loop-alternative-preserved : goal.loop-alternative-preserved
loop-alternative-preserved g c =
    let e = count_next g.A.Atomic.states g.B.Body.tree c.args.alternatives.now c.loop-alternative.alternative-index
    c.alternative-item.result _ c.loop-alternative-test.true c.alternative-item.is c.elements.ensures in
    omega (arith, e, c.in_ok-left.ensures, c.in_ok-checked_sub.ensures)

pub returns-in_err-left : goal.returns-in_err-left
returns-in_err-left g c =
    let e = count_next g.A.Atomic.states g.B.Body.tree c.args.alternatives.now c.loop-alternative.alternative-index
    c.alternative-item.result _ c.loop-alternative-test.true c.alternative-item.is c.elements.ensures in
    rw c.from_residual-in_err-left.ensures (omega (arith, e, c.in_err-left.ensures, c.in_ok-checked_sub.ensures))
