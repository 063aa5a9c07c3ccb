use Rattle.std.proofs.Common.{arith, refl}
use Rattle.g4_preds.proofs.Walked.{begun, at_test, at_branch, after_test, ended}
use Rattle.g4_preds.proofs.predicate.Predicate.eval.Goals as goal

pub loop-at-init : goal.loop-at-init
loop-at-init g c =
    begun (g.S.Surroundings.moment c.args.surroundings.now) c.self.inside.nodes c.as_slice-nodes.result.now c.self.inside.branches
    c.as_slice-branches.result.now c.args.self.now c.as_slice-nodes.ensures c.as_slice-branches.ensures c.self.invariant.0
    c.self.invariant.1 c.self.view_is

pub returns-in_default : goal.returns-in_default
returns-in_default g c =
    let found = at_test (g.S.Surroundings.moment c.args.surroundings.now) c.as_slice-nodes.result.now c.as_slice-branches.result.now
    c.args.self.now c.loop-at.at c.index-nodes-at.result c.loop-at-test.true c.index-nodes-at.is c.loop-at.invariant in
    absurd (c.in_default.not-Operand found.0 found.1)

pub bounds-branches-at : goal.bounds-branches-at
bounds-branches-at g c = at_branch (g.S.Surroundings.moment c.args.surroundings.now) c.as_slice-nodes.result.now
    c.as_slice-branches.result.now c.args.self.now c.loop-at.at c.loop-at-test.true c.loop-at.invariant

pub loop-at-smaller : goal.loop-at-smaller
loop-at-smaller g c =
    let further = after_test (g.S.Surroundings.moment c.args.surroundings.now) c.as_slice-nodes.result.now c.as_slice-branches.result.now
    c.args.self.now c.loop-at.at c.target-at.result c.index-nodes-at.result c.in-Operand.test _ c.holds.result c.loop-at-test.true
    c.index-nodes-at.is c.in-Operand.is c.holds.ensures c.target-at.ensures c.loop-at.invariant in
    let within = c.loop-at-test.true in
    omega (arith, further.later, within)

pub loop-at-preserved : goal.loop-at-preserved
loop-at-preserved g c =
    let further = after_test (g.S.Surroundings.moment c.args.surroundings.now) c.as_slice-nodes.result.now c.as_slice-branches.result.now
    c.args.self.now c.loop-at.at c.target-at.result c.index-nodes-at.result c.in-Operand.test _ c.holds.result c.loop-at-test.true
    c.index-nodes-at.is c.in-Operand.is c.holds.ensures c.target-at.ensures c.loop-at.invariant in
    further.leads

pub returns : goal.returns
returns g c = ended (g.S.Surroundings.moment c.args.surroundings.now) c.as_slice-nodes.result.now c.as_slice-branches.result.now
    c.args.self.now c.loop-at.at _ c.loop-at-test.false refl c.loop-at.invariant
