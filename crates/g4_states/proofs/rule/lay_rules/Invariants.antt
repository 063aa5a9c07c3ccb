use Rattle.std.proofs.Common.{◌≡◌, ◌+◌, ◌++◌, drop, length}
use Rattle.g4_states.specs.Rules.{HaveLaid, AreFullTrees, ends_from}
use Rattle.g4_states.specs.Trees.{rules_over}
use Rattle.g4_states.proofs.rule.lay_rules.Given as goal

abbrev pub invariant-loop-rule : goal.invariant-loop-rule
invariant-loop-rule g l = record {
  counted : l.number ≡ l.first + l.rule-index;
  full : AreFullTrees (rules_over g.A.Atom.step g.B.Body.tree g.R.LaidRule.bodies (drop l.rule-index l.rules));
  laid : HaveLaid l.first l.initial.states.items l.states.items l.number
      (rules_over g.A.Atom.step g.B.Body.tree g.R.LaidRule.bodies l.rules)
      (rules_over g.A.Atom.step g.B.Body.tree g.R.LaidRule.bodies (drop l.rule-index l.rules));
  ends : l.ends.items ++ ends_from (length l.states.items)
      (rules_over g.A.Atom.step g.B.Body.tree g.R.LaidRule.bodies (drop l.rule-index l.rules))
      ≡ ends_from (length l.initial.states.items) (rules_over g.A.Atom.step g.B.Body.tree g.R.LaidRule.bodies l.rules);
}
