use Rattle.std.proofs.Common.{arith, ap}
use Rattle.g4_layout.specs.Size.{states_of_bodies}
use Rattle.g4_states.specs.Trees.{body_over}
use Rattle.g4_states.proofs.Lists.{length_pushed}
use Rattle.g4_states.proofs.Trees.{body_run, next_of, none_of}
use Rattle.g4_states.proofs.Runs.{more_sides_at, all_sides}
use Rattle.g4_states.proofs.draft.lay_bodies.Goals as goal

pub lay_run-requires-clause-full : goal.lay_run-requires-clause-full
lay_run-requires-clause-full g c =
    let run = body_run g.A.Atom.step (g.B.Body.tree c.alternative-item.result) c.elements.result.now c.elements.ensures in
    let e = next_of (body_over g.A.Atom.step g.B.Body.tree) c.args.alternatives.now c.loop-alternative.alternative-index
    c.alternative-item.result _ c.loop-alternative-test.true c.alternative-item.is run in
    (rw e at c.loop-alternative.invariant.full).0

pub lay_run-requires-clause-room : goal.lay_run-requires-clause-room
lay_run-requires-clause-room g c =
    let run = body_run g.A.Atom.step (g.B.Body.tree c.alternative-item.result) c.elements.result.now c.elements.ensures in
    let e = next_of (body_over g.A.Atom.step g.B.Body.tree) c.args.alternatives.now c.loop-alternative.alternative-index
    c.alternative-item.result _ c.loop-alternative-test.true c.alternative-item.is run in
    let size = c.loop-alternative.invariant.laid.size in
    let count = ap states_of_bodies e in
    let pushed = length_pushed _ _ _ c.in_ok-push.ensures.items in
    omega (arith, c.requires.room)

pub loop-alternative-preserved : goal.loop-alternative-preserved
loop-alternative-preserved g c =
    let run = body_run g.A.Atom.step (g.B.Body.tree c.alternative-item.result) c.elements.result.now c.elements.ensures in
    let e = next_of (body_over g.A.Atom.step g.B.Body.tree) c.args.alternatives.now c.loop-alternative.alternative-index
    c.alternative-item.result _ c.loop-alternative-test.true c.alternative-item.is run in
    record {
      full = (rw e at c.loop-alternative.invariant.full).1;
      many = omega (arith, length_pushed _ _ _ c.in_ok-push-2.ensures.items, c.loop-alternative.invariant.many);
      laid = more_sides_at _ _ _ _ _ _ _ _ _ _ _ _ _ c.in_ok-push.ensures.items
          (omega (arith, c.len-first.ensures, c.loop-alternative.states.ok.0)) c.in_ok-push-2.ensures.items c.in_ok-push-3.ensures.items
          (rw e at c.loop-alternative.invariant.laid) c.in_ok-last.ensures;
    }

pub returns-clause-laid : goal.returns-clause-laid
returns-clause-laid g c =
    let e = none_of (body_over g.A.Atom.step g.B.Body.tree) c.args.alternatives.now c.loop-alternative.alternative-index
    c.loop-alternative-test.false in
    all_sides _ _ _ _ _ (rw e at c.loop-alternative.invariant.laid)
