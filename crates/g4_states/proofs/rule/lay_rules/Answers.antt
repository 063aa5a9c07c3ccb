use Rattle.std.proofs.Common.{◌≡◌, ℕ, ◌+◌, ◌++◌, ◌∷◌, [], drop, sum_by, arith, refl, length, ap, sym, ◌∙◌}
use Rattle.std.proofs.lemmas.List.{append-nil}
use Rattle.std.proofs.lemmas.List.Sums.{sum_by-cons}
use Rattle.g4_layout.specs.Size.{states_of_rule}
use Rattle.g4_states.specs.Trees.{bodies_over, rules_over}
use Rattle.g4_states.proofs.Trees.{next_tree, no_tree, length_trees}
use Rattle.g4_states.proofs.RulesLaid.{more_have, next_end}
use Rattle.g4_states.proofs.rule.lay_rules.Goals as goal

pub lay_rule-requires-clause-full : goal.lay_rule-requires-clause-full
lay_rule-requires-clause-full g c =
    let e = next_tree g.A.Atom.step g.B.Body.tree g.R.LaidRule.bodies c.args.rules.now c.loop-rule.rule-index c.rule-item.result
    c.bodies.result.now c.loop-rule-test.true c.rule-item.is c.bodies.ensures in
    (rw e at c.loop-rule.invariant.full).0

pub lay_rule-requires-clause-room : goal.lay_rule-requires-clause-room
lay_rule-requires-clause-room g c =
    let e = next_tree g.A.Atom.step g.B.Body.tree g.R.LaidRule.bodies c.args.rules.now c.loop-rule.rule-index c.rule-item.result
    c.bodies.result.now c.loop-rule-test.true c.rule-item.is c.bodies.ensures in
    let size = c.loop-rule.invariant.laid.size in
    let first = sum_by-cons states_of_rule (bodies_over g.A.Atom.step g.B.Body.tree c.bodies.result.now)
    (rules_over g.A.Atom.step g.B.Body.tree g.R.LaidRule.bodies (drop (c.loop-rule.rule-index + 1) c.args.rules.now)) in
    omega (arith, c.requires.room, first, ap (sum_by states_of_rule) e, size)

pub loop-rule-preserved : goal.loop-rule-preserved
loop-rule-preserved g c =
    let e = next_tree g.A.Atom.step g.B.Body.tree g.R.LaidRule.bodies c.args.rules.now c.loop-rule.rule-index c.rule-item.result
    c.bodies.result.now c.loop-rule-test.true c.rule-item.is c.bodies.ensures in
    record {
      counted = omega (arith, c.loop-rule.invariant.counted);
      full = (rw e at c.loop-rule.invariant.full).1;
      laid = more_have _ _ _ _ _ _ _ _ _ (omega (arith, c.loop-rule.invariant.counted)) refl
          (omega (arith, c.loop-rule.invariant.counted, length_trees g.A.Atom.step g.B.Body.tree g.R.LaidRule.bodies c.args.rules.now))
          (omega (arith, c.loop-rule.invariant.counted, c.requires.heads)) (rw e at c.loop-rule.invariant.laid) c.in_ok-lay_rule.ensures;
      ends = next_end _ _ _ _ _ _ _ (rw e at c.loop-rule.invariant.ends) c.in_ok-lay_rule.ensures.size
          (c.in_ok-push.ensures.items ∙ ap (λ (m : ℕ). c.loop-rule.ends.items ++ m ∷ [])
          (omega (arith, c.len.ensures, c.lay_rule.new.states.ok.0)));
    }

pub returns : goal.returns
returns g c =
    let done = no_tree g.A.Atom.step g.B.Body.tree g.R.LaidRule.bodies c.args.rules.now c.loop-rule.rule-index c.loop-rule-test.false in
    let counted : c.loop-rule.number ≡ c.args.first + length c.args.rules.now =
    omega (arith, c.loop-rule.invariant.counted, c.loop-rule.auto.rule-index-end, c.loop-rule-test.false) in
    record {
      laid = rw (done, counted) at c.loop-rule.invariant.laid;
      ends = sym (append-nil c.loop-rule.ends.items) ∙ rw done at c.loop-rule.invariant.ends;
    }
