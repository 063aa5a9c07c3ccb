use Rattle.std.proofs.Common.{arith, refl, ap}
use Rattle.g4_layout.specs.Size.{states_in_order}
use Rattle.g4_states.specs.Trees.{run_of}
use Rattle.g4_states.proofs.Trees.{body_run}
use Rattle.g4_states.proofs.RulesLaid.{lone_rule}
use Rattle.g4_states.proofs.rule.lay_lone.Goals as goal

pub lay_run-requires-clause-full : goal.lay_run-requires-clause-full
lay_run-requires-clause-full g c =
    let e = body_run g.A.Atom.step (g.B.Body.tree c.args.alternative.now) c.elements.result.now c.elements.ensures in
    rw e c.requires.full.0

pub lay_run-requires-clause-room : goal.lay_run-requires-clause-room
lay_run-requires-clause-room g c =
    let e = ap states_in_order (body_run g.A.Atom.step (g.B.Body.tree c.args.alternative.now) c.elements.result.now c.elements.ensures) in
    omega (arith, e, c.requires.room)

pub returns : goal.returns
returns g c =
    let e = body_run g.A.Atom.step (g.B.Body.tree c.args.alternative.now) c.elements.result.now c.elements.ensures in
    rw (← e) (lone_rule _ c.lay_run.new.states.items _ _ _ (run_of g.A.Atom.step c.elements.result.now) c.requires.rule
    c.in_ok-last.ensures refl)
