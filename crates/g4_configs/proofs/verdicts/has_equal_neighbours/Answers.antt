use Rattle.std.proofs.Common.{true≢false, refl, sym, arith}
use Rattle.g4_configs.proofs.Twice.{found_equal, one_more_apart}
use Rattle.g4_configs.proofs.verdicts.has_equal_neighbours.Goals as goal

pub returns-then-eq : goal.returns-then-eq
returns-then-eq c = ((λ t. found_equal c.args.pairs.now c.loop-i.i c.loop-i.auto.i c.loop-i-test.true c.if-eq.ensures), (λ h. refl))

pub loop-i-preserved : goal.loop-i-preserved
loop-i-preserved c = one_more_apart c.args.pairs.now c.loop-i.i c.loop-i.auto.i c.loop-i.invariant c.if-eq.ensures

pub returns : goal.returns
returns c = ((λ t. absurd (true≢false (sym t))), (λ h. absurd (c.loop-i.invariant h.0 (let lt = h.1 in omega arith) h.2)))
