use Rattle.std.proofs.Common.{arith, inr}
use Rattle.g4_layout.specs.Size.{one_state}
use Rattle.g4_states.specs.Trees.{body_over}
use Rattle.g4_states.proofs.Counts.{count_other_rule}
use Rattle.g4_states.proofs.RulesLaid.{several_rule}
use Rattle.g4_states.proofs.rule.lay_several.Goals as goal

pub lay_bodies-requires-clause-room : goal.lay_bodies-requires-clause-room
lay_bodies-requires-clause-room g c = omega (
  arith,
  count_other_rule one_state (body_over g.A.Atom.step g.B.Body.tree) c.args.alternatives.now (inr c.requires.several),
  c.requires.room,
)

pub returns : goal.returns
returns g c =
    let laid = c.in_ok-bodies.ensures.laid in
    let many = c.in_ok-bodies.ensures.many in
    several_rule _ c.lay_bodies.new.states.items _ _ c.in_ok-bodies.bodies.firsts.items c.in_ok-bodies.bodies.lasts.items _
    c.requires.rule laid (omega (arith, many, c.requires.several))
    (count_other_rule one_state (body_over g.A.Atom.step g.B.Body.tree) c.args.alternatives.now (inr c.requires.several))
    (rw (c.as_slice.ensures.value, c.new.ensures) at c.link.ensures)
