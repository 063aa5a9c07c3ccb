use Rattle.std.proofs.Common.{◌↔◌, ◌∙◌, IsTrue, true≢false, sym, subst}
use Rattle.g4_stacks.specs.Canonical.{IsCanonical}
use Rattle.g4_configs.specs.Configs.{Holds, View}
use Rattle.g4_configs.specs.Groups.{AreNodes}
use Rattle.g4_configs.specs.Verdicts.{AreAlike}
use Rattle.g4_configs.proofs.Comparing.{AreEntries, alike_verdict, one_alternative}
use Rattle.g4_configs.proofs.configs.Configs.alike.Goals as goal

pub returns-then-not-has_other : goal.returns-then-not-has_other
returns-then-not-has_other c = (
  (λ t. absurd (true≢false (sym t))),
  (λ a. absurd
      (one_alternative (Holds c.args.self.now) c.in-Some.least
      (λ other. true≢false (sym (c.has_other.ensures.1 other) ∙ c.if-not-has_other.true)) a)),
)

pub returns : goal.returns
returns c =
    let canon = subst (λ (v : View). IsCanonical v.graph) c.self.view_is c.is_canonical.ensures in
    let nodes = subst (λ (v : View). AreNodes v.graph v.nodes) c.self.view_is c.self.invariant in
    let entries = subst (AreEntries c.args.self.now.nodes) (sym c.deref.ensures.value) c.in_ok-groups.ensures.entries in
    let answer = subst (λ (v : View). IsTrue c.in_ok-answer.answer ↔ AreAlike v.nodes c.deref.result.now) c.self.view_is
    c.in_ok-answer.ensures in
    let one = c.in-Some.ensures.some in
    let other = c.has_other.ensures.0 c.if-not-has_other.false in
    alike_verdict c.args.self.now canon nodes c.deref.result.now c.in_ok-answer.answer entries answer
    (one.0, other.0, one.1, other.1, (λ e. other.2 (sym e ∙ one.2)))
